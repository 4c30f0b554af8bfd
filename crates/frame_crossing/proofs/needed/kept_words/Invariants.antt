use Rattle.std.proofs.Common.{◌≡◌, map, take}
use Rattle.frame_crossing.specs.Words.{kept_back}
use Rattle.frame_crossing.proofs.needed.kept_words.Given as goal

abbrev pub invariant-loop-from : goal.invariant-loop-from
invariant-loop-from l = l.words.items ≡ map (kept_back l.stops) (take l.from-index l.edges)
