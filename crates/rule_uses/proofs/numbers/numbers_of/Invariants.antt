use Rattle.std.proofs.Common.{take}
use Rattle.rule_uses.specs.Questions.{AreNumbered}
use Rattle.rule_uses.proofs.numbers.numbers_of.Given as goal

abbrev pub invariant-loop-found : goal.invariant-loop-found
invariant-loop-found l = AreNumbered l.names (take l.found-index l.opens) l.all.numbers l.all.values
