use Rattle.std.proofs.Common.{◌≡◌, take}
use Rattle.rule_slots.specs.Steps.{asked_at}
use Rattle.rule_slots.proofs.steps.asked.Given as goal

abbrev pub invariant-loop-name : goal.invariant-loop-name
invariant-loop-name l = l.starts.items ≡ asked_at (take l.name-index l.names)
