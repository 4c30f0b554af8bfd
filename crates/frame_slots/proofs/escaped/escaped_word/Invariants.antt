use Rattle.std.proofs.Common.{◌≡◌, drop}
use Rattle.frame_slots.specs.Words.{blocks_word}
use Rattle.frame_slots.proofs.escaped.escaped_word.Given as goal

abbrev pub invariant-loop-block : goal.invariant-loop-block
invariant-loop-block l = blocks_word l.words l.word (drop l.block-index l.function.blocks) ≡ blocks_word l.words 0 l.function.blocks
