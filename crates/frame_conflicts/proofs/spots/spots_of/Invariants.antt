use Rattle.std.proofs.Common.{◌≡◌, ◌++◌, drop}
use Rattle.frame_conflicts.specs.Meeting.{spots_from}
use Rattle.frame_conflicts.proofs.spots.spots_of.Given as goal

abbrev pub invariant-loop-at : goal.invariant-loop-at
invariant-loop-at l = l.spots ++ spots_from l.at (drop l.at l.words) ≡ spots_from 0 l.words
