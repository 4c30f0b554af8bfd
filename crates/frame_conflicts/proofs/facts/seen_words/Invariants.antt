use Rattle.std.proofs.Common.{◌≡◌, map, take}
use Rattle.frame_conflicts.specs.Known.{seen_word}
use Rattle.frame_conflicts.proofs.facts.seen_words.Given as goal

abbrev pub invariant-loop-point : goal.invariant-loop-point
invariant-loop-point l = l.words ≡ map (seen_word l.rows l.loose) (take l.point-index l.looked)
