use Rattle.std.proofs.Common.{◌≡◌, map, take}
use Rattle.rule_uses.specs.Questions.{block_word}
use Rattle.rule_window_values.proofs.words.made_words.Given as goal

abbrev pub invariant-loop-block : goal.invariant-loop-block
invariant-loop-block l = l.words.items ≡ map (block_word l.numbers l.chunk) (take l.block-index l.blocks)
