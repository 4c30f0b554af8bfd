use Rattle.rule_window_values.specs.Told.{AreTold}
use Rattle.rule_window_values.proofs.rule.told_words.Given as goal

abbrev pub invariant-loop-number : goal.invariant-loop-number
invariant-loop-number l = AreTold l.function l.all.numbers l.number l.words
