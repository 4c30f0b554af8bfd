use Rattle.std.proofs.Common.{◌≡◌, map, take}
use Rattle.rule_window_values.specs.Words.{passed_word}
use Rattle.rule_window_values.proofs.words.passed_words.Given as goal

abbrev pub invariant-loop-edge : goal.invariant-loop-edge
invariant-loop-edge l = l.words.items ≡ map (passed_word l.made l.end) (take l.edge-index l.edges)
