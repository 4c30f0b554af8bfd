use Rattle.std.proofs.Common.{◌≡◌, take}
use Rattle.std.specs.Prelude.{filter}
use Rattle.flow_points.specs.Rows.{is_marked}
use Rattle.flow_points.proofs.graph.marked_among.Given as goal

abbrev pub invariant-loop-point : goal.invariant-loop-point
invariant-loop-point l = l.all ≡ filter (is_marked l.marks) (take l.point-index l.points)
