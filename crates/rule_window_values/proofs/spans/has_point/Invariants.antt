use Rattle.std.proofs.Common.{◌≡◌, drop}
use Rattle.ir_paths.specs.Paths.{has_point}
use Rattle.rule_window_values.proofs.spans.has_point.Given as goal

abbrev pub invariant-loop-one : goal.invariant-loop-one
invariant-loop-one l = has_point l.points l.point ≡ has_point (drop l.one-index l.points) l.point
