use Rattle.std.proofs.Common.{◌≡◌, map, take}
use Rattle.rule_uses.specs.Questions.{edge_word}
use Rattle.rule_uses.proofs.words.kept_words.Given as goal

abbrev pub invariant-loop-from : goal.invariant-loop-from
invariant-loop-from l = l.words.items ≡ map (edge_word l.made) (take l.from-index l.edges)
