use Rattle.std.proofs.Common.{subst, sym}
use Rattle.ir_model.specs.declared.operand.Intrinsic.{Intrinsic}
use Rattle.flow_reach.specs.Reached.{HaveShape}
use Rattle.frame_classes.proofs.Passing.{shape_of_calls}
use Rattle.frame_classes.specs.Rows.{all_bits}
use Rattle.frame_classes.proofs.plan.after_rows.Goals as goal

pub coming_rows-requires-clause-shape : goal.coming_rows-requires-clause-shape
coming_rows-requires-clause-shape c = subst (HaveShape c.args.function.now) (sym c.requires.suspends) (shape_of_calls Intrinsic.CoroSuspend all_bits c.args.function.now)
