use Rattle.std.proofs.Common.{◌≡◌, drop, replicate}
use Rattle.frame_crossing.specs.Words.{use_words}
use Rattle.frame_crossing.proofs.pairs.use_words.Given as goal

abbrev pub invariant-loop-one : goal.invariant-loop-one
invariant-loop-one l = use_words l.numbers l.chunk l.words.items (drop l.one-index l.uses) ≡ use_words l.numbers l.chunk (replicate l.count 0) l.uses
