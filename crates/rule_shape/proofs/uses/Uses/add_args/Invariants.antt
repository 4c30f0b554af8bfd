use Rattle.std.proofs.Common.{◌≡◌, drop}
use Rattle.rule_windows.specs.ir_parts.Contents.{arg_operands}
use Rattle.rule_shape.specs.Uses.{counted_all}
use Rattle.rule_shape.proofs.uses.Uses.add_args.Given as goal

abbrev pub invariant-loop-arg : goal.invariant-loop-arg
invariant-loop-arg l = counted_all l.self (arg_operands (drop l.arg-index l.args)) ≡ counted_all l.initial.self (arg_operands l.args)
