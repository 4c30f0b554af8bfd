use Rattle.std.proofs.Common.{◌≡◌, ◌++◌, drop}
use Rattle.rule_window_values.specs.Spans.{inside_values}
use Rattle.rule_window_values.proofs.spans.values_inside.Given as goal

abbrev pub invariant-loop-point : goal.invariant-loop-point
invariant-loop-point l = l.values ++ inside_values l.function (drop l.point-index l.points) ≡ inside_values l.function l.points
