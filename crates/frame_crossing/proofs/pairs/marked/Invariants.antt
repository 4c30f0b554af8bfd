use Rattle.std.proofs.Common.{◌≡◌, ◌++◌, drop}
use Rattle.frame_crossing.specs.Words.{marked_from}
use Rattle.frame_crossing.proofs.pairs.marked.Given as goal

abbrev pub invariant-loop-word : goal.invariant-loop-word
invariant-loop-word l = l.all.items ++ marked_from l.at (drop l.word-index l.words) ≡ marked_from 0 l.words
