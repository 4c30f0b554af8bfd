use Rattle.std.proofs.Common.{subst, sym}
use Rattle.ir_model.specs.declared.operand.Intrinsic.{Intrinsic}
use Rattle.flow_reach.specs.Reached.{HaveShape}
use Rattle.frame_classes.proofs.Passing.{shape_of_calls}
use Rattle.frame_classes.specs.Rows.{all_bits}
use Rattle.frame_classes.proofs.plan.plan_of.Goals as goal

pub behind_rows-requires-clause-shape : goal.behind_rows-requires-clause-shape
behind_rows-requires-clause-shape c = subst (HaveShape c.args.function.now) (sym c.in_ok-suspends.ensures) (shape_of_calls Intrinsic.CoroSuspend all_bits c.args.function.now)
