use Rattle.std.proofs.Common.{take}
use Rattle.rule_slots.specs.Steps.{AreBelow}
use Rattle.rule_slots.proofs.steps.all_below.Given as goal

abbrev pub invariant-loop-name : goal.invariant-loop-name
invariant-loop-name l = AreBelow (take l.name-index l.names) l.count
