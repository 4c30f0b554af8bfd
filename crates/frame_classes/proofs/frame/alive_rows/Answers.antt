use Rattle.std.proofs.Common.{subst, sym}
use Rattle.ir_model.specs.declared.operand.Intrinsic.{Intrinsic}
use Rattle.flow_reach.specs.Reached.{HaveShape}
use Rattle.frame_classes.proofs.Passing.{shape_of_markers}
use Rattle.frame_classes.proofs.frame.alive_rows.Goals as goal

pub coming_rows-requires-clause-shape : goal.coming_rows-requires-clause-shape
coming_rows-requires-clause-shape c = subst (HaveShape c.args.function.now) (sym c.in_ok-ends.ensures) (shape_of_markers Intrinsic.LifetimeEnd _ c.args.function.now)
