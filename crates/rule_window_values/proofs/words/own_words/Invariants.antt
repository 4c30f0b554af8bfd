use Rattle.std.proofs.Common.{◌≡◌, ℕ, drop}
use Rattle.rule_uses.specs.flow_blocks.Words.{word_at}
use Rattle.rule_window_values.specs.Words.{own_word}
use Rattle.rule_window_values.proofs.words.own_words.Given as goal

abbrev pub invariant-loop-span : goal.invariant-loop-span
invariant-loop-span l = (block : ℕ) → own_word l.numbers l.chunk block (word_at l.own block) (drop l.span-index l.spans) ≡ own_word l.numbers l.chunk block 0 l.spans
