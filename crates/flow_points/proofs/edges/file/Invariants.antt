use Rattle.std.proofs.Common.{take}
use Rattle.flow_points.specs.Edges.{AreFiled}
use Rattle.flow_points.proofs.edges.file.Given as goal

abbrev pub invariant-loop-point : goal.invariant-loop-point
invariant-loop-point l = AreFiled (take l.point-index l.points) l.end l.initial.rows.items l.rows.items
