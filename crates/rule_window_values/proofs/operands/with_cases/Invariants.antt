use Rattle.std.proofs.Common.{◌≡◌, drop, map}
use Rattle.rule_window_values.specs.Words.{operands_word}
use Rattle.rule_window_values.proofs.operands.with_cases.Given as goal

abbrev pub invariant-loop-case : goal.invariant-loop-case
invariant-loop-case l = operands_word l.numbers l.chunk l.word (map (λ k. k.arg.value) (drop l.case-index l.cases)) ≡ operands_word l.numbers l.chunk l.first (map (λ k. k.arg.value) l.cases)
