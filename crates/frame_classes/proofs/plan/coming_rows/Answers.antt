use Rattle.std.proofs.Common.{subst, sym}
use Rattle.flow_reach.specs.Reached.{HaveShape}
use Rattle.frame_classes.proofs.Passing.{edge_blocks, shape_of_passes}
use Rattle.frame_classes.proofs.plan.coming_rows.Goals as goal

pub reached_points-requires-clause-rows : goal.reached_points-requires-clause-rows
reached_points-requires-clause-rows c = subst (HaveShape c.args.function.now) (sym c.in_ok-passes_by.ensures) (shape_of_passes c.args.function.now c.args.mask c.args.stops.now c.args.rows.now c.requires.shape)

pub reached_points-requires-clause-fronts : goal.reached_points-requires-clause-fronts
reached_points-requires-clause-fronts c = edge_blocks c.args.function.now c.args.edges.now c.in_ok-edge_fronts.field-0 c.in_ok-edge_fronts.ensures c.requires.edges
