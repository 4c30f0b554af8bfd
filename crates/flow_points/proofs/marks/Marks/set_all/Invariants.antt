use Rattle.std.proofs.Common.{take}
use Rattle.flow_points.specs.Rows.{AreJoined}
use Rattle.flow_points.proofs.marks.Marks.set_all.Given as goal

abbrev pub invariant-loop-point : goal.invariant-loop-point
invariant-loop-point l = AreJoined (take l.point-index l.points) l.initial.self l.self
