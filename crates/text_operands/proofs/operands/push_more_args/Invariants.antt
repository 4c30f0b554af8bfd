use Rattle.std.proofs.Common.{◌≡◌, ◌++◌, drop}
use Rattle.text_canonical.specs.canonical.Operands.{more_args_text}
use Rattle.text_operands.proofs.operands.push_more_args.Given as goal

abbrev pub invariant-loop-arg : goal.invariant-loop-arg
invariant-loop-arg l = l.out.items ++ more_args_text l.names (drop l.arg-index l.args) ≡ l.initial.out.items ++ more_args_text l.names l.args
