use Rattle.std.proofs.Common.{◌≡◌, drop}
use Rattle.std.specs.List.{list_any}
use Rattle.rule_windows.specs.Windows.{is_off}
use Rattle.rule_windows.proofs.windows.any_is_off.Given as goal

abbrev pub invariant-loop-point : goal.invariant-loop-point
invariant-loop-point l = list_any (is_off l.back l.save l.suspend) l.points ≡ list_any (is_off l.back l.save l.suspend) (drop l.point-index l.points)
