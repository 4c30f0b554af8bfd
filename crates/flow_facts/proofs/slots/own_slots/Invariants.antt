use Rattle.std.proofs.Common.{◌≡◌, ◌++◌, drop, flat_map}
use Rattle.flow_facts.specs.Slots.{own_in}
use Rattle.flow_facts.proofs.slots.own_slots.Given as goal

abbrev pub invariant-loop-block : goal.invariant-loop-block
invariant-loop-block l = l.slots ++ flat_map (λ b. own_in l.promise l.words b.instrs) (drop l.block-index l.blocks) ≡ flat_map (λ b. own_in l.promise l.words b.instrs) l.blocks
