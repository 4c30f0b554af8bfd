use Rattle.rule_uses.specs.Questions.{IsBest}
use Rattle.rule_uses.proofs.rule.first_open.Given as goal

abbrev pub invariant-loop-chunk : goal.invariant-loop-chunk
invariant-loop-chunk l = IsBest l.function l.all.numbers l.opens l.chunk l.limit
