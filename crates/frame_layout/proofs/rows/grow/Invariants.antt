use Rattle.std.proofs.Common.{◌≡◌, ◌+◌, ◌-◌, ℕ, [], get_or, length}
use Rattle.frame_layout.proofs.rows.grow.Given as goal

abbrev pub invariant-loop-alloc : goal.invariant-loop-alloc
invariant-loop-alloc l = (s : ℕ) → get_or l.rows.items s [] ≡ get_or l.initial.rows.items s []

abbrev pub decreases-loop-alloc : goal.decreases-loop-alloc
decreases-loop-alloc l = l.row + 1 - length l.rows.items
