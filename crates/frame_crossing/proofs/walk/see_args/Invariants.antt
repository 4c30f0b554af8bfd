use Rattle.std.proofs.Common.{◌≡◌, drop}
use Rattle.ir_parts.specs.Contents.{arg_operands}
use Rattle.frame_crossing.specs.OneWalk.{with_uses}
use Rattle.frame_crossing.proofs.walk.see_args.Given as goal

abbrev pub invariant-loop-arg : goal.invariant-loop-arg
invariant-loop-arg l = with_uses l.made l.mark l.far (arg_operands (drop l.arg-index l.args)) ≡ with_uses l.made l.mark l.initial.far (arg_operands l.args)
