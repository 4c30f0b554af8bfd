use Rattle.std.proofs.Common.{◌≡◌, ◌++◌, ◌∷◌, drop, take, map, filter, length, ◌-◌, ◌+◌}
use Rattle.pass_split.specs.Pieces.{suspend_origins}
use Rattle.pass_split.proofs.origins.set_suspends.Given as goal

abbrev pub invariant-loop-point : goal.invariant-loop-point
invariant-loop-point l = suspend_origins l.table l.number (drop l.point-index l.suspends) ≡ suspend_origins l.initial.table 0 l.suspends
