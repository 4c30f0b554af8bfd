use Rattle.std.proofs.Common.{◌≡◌}
use Rattle.flow_points.specs.Rows.{AreBlank}
use Rattle.rule_windows.proofs.sets.PointSet.new.Given as goal

abbrev pub invariant-loop-block : goal.invariant-loop-block
invariant-loop-block l = AreBlank l.rows.items
