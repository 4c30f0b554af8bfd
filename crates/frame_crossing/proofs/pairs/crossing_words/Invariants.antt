use Rattle.std.proofs.Common.{◌≡◌, ◌++◌, drop}
use Rattle.frame_crossing.specs.Words.{crossing_words}
use Rattle.frame_crossing.proofs.pairs.crossing_words.Given as goal

abbrev pub invariant-loop-block : goal.invariant-loop-block
invariant-loop-block l = l.words.items ++ crossing_words l.numbers l.chunk l.seen l.own l.needed l.ways l.at (drop l.block-index l.blocks) ≡ crossing_words l.numbers l.chunk l.seen l.own l.needed l.ways 0 l.blocks
