use Rattle.std.proofs.Common.{◌≡◌, take}
use Rattle.rule_windows.specs.Sets.{AreIn}
use Rattle.rule_windows.proofs.sets.set_of.Given as goal

abbrev pub invariant-loop-point : goal.invariant-loop-point
invariant-loop-point l = AreIn (take l.point-index l.points) l.set
