use Rattle.std.proofs.Common.{◌≡◌, drop}
use Rattle.rule_uses.specs.Questions.{phis_word}
use Rattle.rule_uses.proofs.words.phis_word.Given as goal

abbrev pub invariant-loop-phi : goal.invariant-loop-phi
invariant-loop-phi l = phis_word l.numbers l.chunk l.word (drop l.phi-index l.phis) ≡ phis_word l.numbers l.chunk 0 l.phis
