use Rattle.std.proofs.Common.{◌≡◌, ◌||◌, take}
use Rattle.ir_paths.specs.Paths.{has_point}
use Rattle.ir_paths.specs.declared.point.Point.{Point}
use Rattle.flow_points.specs.Rows.{is_marked}
use Rattle.rule_slots.proofs.closed.add_all.Given as goal

abbrev pub invariant-loop-point : goal.invariant-loop-point
invariant-loop-point l = (p : Point) → is_marked l.set p ≡ (is_marked l.initial.set p || has_point (take l.point-index l.points) p)
