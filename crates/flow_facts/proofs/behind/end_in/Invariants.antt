use Rattle.std.proofs.Common.{◌≡◌, ◌+◌, drop}
use Rattle.flow_facts.specs.Slots.{end_from}
use Rattle.flow_facts.proofs.behind.end_in.Given as goal

abbrev pub invariant-loop-at : goal.invariant-loop-at
invariant-loop-at l = end_from l.blocks ≡ l.at + end_from (drop l.at l.blocks)
