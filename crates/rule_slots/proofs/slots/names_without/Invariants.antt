use Rattle.std.proofs.Common.{◌≡◌, ◌++◌, drop}
use Rattle.rule_slots.specs.Slots.{names_without}
use Rattle.rule_slots.proofs.slots.names_without.Given as goal

abbrev pub invariant-loop-name : goal.invariant-loop-name
invariant-loop-name l = l.all ++ names_without l.set (drop l.name-index l.names) ≡ names_without l.set l.names
