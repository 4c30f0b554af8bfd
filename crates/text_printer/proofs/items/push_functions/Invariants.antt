use Rattle.std.proofs.Common.{◌≡◌, ◌++◌, drop}
use Rattle.text_canonical.specs.canonical.Items.{functions_text}
use Rattle.text_printer.proofs.items.push_functions.Given as goal

abbrev pub invariant-loop-function : goal.invariant-loop-function
invariant-loop-function l = l.out.items ++ functions_text (drop l.function-index l.functions) ≡ l.initial.out.items ++ functions_text l.functions
