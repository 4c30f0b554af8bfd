use Rattle.std.proofs.Common.{subst, sym, ◌∙◌}
use Rattle.flow_reach.specs.Reached.{HaveShape}
use Rattle.frame_classes.proofs.Passing.{shape_of_passes, way_blocks}
use Rattle.frame_classes.proofs.plan.behind_rows.Goals as goal

pub reached_points-requires-clause-rows : goal.reached_points-requires-clause-rows
reached_points-requires-clause-rows c = subst (HaveShape c.args.function.now) (sym c.in_ok-passes_by.ensures) (shape_of_passes c.args.function.now c.args.mask c.args.stops.now _ c.requires.shape)

pub reached_points-requires-clause-fronts : goal.reached_points-requires-clause-fronts
reached_points-requires-clause-fronts c = way_blocks c.args.function.now c.as_slice.result.now c.args.own.now c.in_ok-way_fronts.field-0 (c.as_slice.ensures ∙ c.requires.ways) c.in_ok-way_fronts.ensures
