use Rattle.std.proofs.Common.{◌≡◌, ◌++◌, drop}
use Rattle.text_canonical.specs.canonical.Items.{more_params_text}
use Rattle.text_printer.proofs.items.push_more_params.Given as goal

abbrev pub invariant-loop-param : goal.invariant-loop-param
invariant-loop-param l = l.out.items ++ more_params_text l.names (drop l.param-index l.params) ≡ l.initial.out.items ++ more_params_text l.names l.params
