use Rattle.std.proofs.Common.{◌≡◌, ◌++◌, ◌∷◌, drop, take, map, filter, length, ◌-◌, ◌+◌}
use Rattle.pass_split.specs.Parts.{cases_from}
use Rattle.pass_split.proofs.parts.cases_of.Given as goal

abbrev pub invariant-loop-point : goal.invariant-loop-point
invariant-loop-point l = l.all ++ cases_from l.shape l.flags l.part l.number (drop l.point-index l.suspends) ≡ cases_from l.shape l.flags l.part 0 l.suspends
