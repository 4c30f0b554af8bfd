use Rattle.rule_slots.proofs.flow_facts.Above.{AreBelow}
use Rattle.std.proofs.Common.{take}
use Rattle.frame_slots.proofs.addresses.above_names.Given as goal

abbrev pub invariant-loop-name : goal.invariant-loop-name
invariant-loop-name l = AreBelow l.count (take l.name-index l.names)
