use Rattle.std.proofs.Common.{◌≡◌, ◌+◌, ◌-◌, ℕ, [], get_or, length, map}
use Rattle.frame_placing.proofs.sides.grow.Given as goal

abbrev pub invariant-loop-alloc : goal.invariant-loop-alloc
invariant-loop-alloc l = (g : ℕ) → get_or (map (λ bars. bars.items) l.side.items) g [] ≡ get_or (map (λ bars. bars.items) l.initial.side.items) g []

abbrev pub decreases-loop-alloc : goal.decreases-loop-alloc
decreases-loop-alloc l = l.group + 1 - length l.side.items
