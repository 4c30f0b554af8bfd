use Rattle.std.proofs.Common.{◌≡◌, map, take}
use Rattle.rule_slots.specs.Steps.{is_odd}
use Rattle.rule_slots.proofs.steps.odd_ones.Given as goal

abbrev pub invariant-loop-word : goal.invariant-loop-word
invariant-loop-word l = l.all ≡ map is_odd (take l.word-index l.words)
