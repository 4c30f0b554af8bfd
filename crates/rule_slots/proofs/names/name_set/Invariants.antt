use Rattle.std.proofs.Common.{take}
use Rattle.rule_slots.specs.Names.{AreNamed}
use Rattle.rule_slots.proofs.names.name_set.Given as goal

abbrev pub invariant-loop-name : goal.invariant-loop-name
invariant-loop-name l = AreNamed (take l.name-index l.names) l.set
