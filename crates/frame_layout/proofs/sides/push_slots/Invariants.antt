use Rattle.std.proofs.Common.{◌≡◌, ◌+◌, ◌++◌, drop, map}
use Rattle.frame_layout.proofs.sides.push_slots.Given as goal

abbrev pub invariant-loop-k : goal.invariant-loop-k
invariant-loop-k l = l.pairs.items ++ map (λ k. (k, 1)) (drop l.k-index l.slots) ≡ l.initial.pairs.items ++ map (λ k. (k, 1)) l.slots
