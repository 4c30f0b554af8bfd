use Rattle.std.proofs.Common.{◌≡◌, drop}
use Rattle.rule_window_values.specs.Words.{values_word}
use Rattle.rule_window_values.proofs.words.values_word.Given as goal

abbrev pub invariant-loop-value : goal.invariant-loop-value
invariant-loop-value l = values_word l.numbers l.chunk l.word (drop l.value-index l.values) ≡ values_word l.numbers l.chunk 0 l.values
