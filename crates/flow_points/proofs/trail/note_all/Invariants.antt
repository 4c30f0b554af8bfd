use Rattle.std.proofs.Common.{take}
use Rattle.ir_paths.specs.Paths.{has_point}
use Rattle.flow_points.specs.Search.{IsGrown}
use Rattle.flow_points.proofs.trail.note_all.Given as goal

abbrev pub invariant-loop-point : goal.invariant-loop-point
invariant-loop-point l = IsGrown (has_point (take l.point-index l.points)) l.initial.marks l.initial.found.items l.marks l.found.items
