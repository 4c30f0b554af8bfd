use Rattle.std.proofs.Common.{◌≡◌, drop}
use Rattle.flow_points.specs.ir_paths.Paths.{has_point}
use Rattle.rule_windows.proofs.points.has_point.Given as goal

abbrev pub invariant-loop-one : goal.invariant-loop-one
invariant-loop-one l = has_point l.points l.point ≡ has_point (drop l.one-index l.points) l.point
