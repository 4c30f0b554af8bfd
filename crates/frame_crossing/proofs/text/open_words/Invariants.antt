use Rattle.std.proofs.Common.{◌≡◌, map, take}
use Rattle.frame_crossing.specs.Words.{block_open}
use Rattle.frame_crossing.proofs.text.open_words.Given as goal

abbrev pub invariant-loop-block : goal.invariant-loop-block
invariant-loop-block l = l.words.items ≡ map (block_open l.numbers l.chunk) (take l.block-index l.blocks)
