-- The size of a frame fits.
use Rattle.std.proofs.Common.{ℕ, ◌+◌, ◌-◌, ◌%◌, ◌<◌, ◌≤◌, List, arith}
use Rattle.std.specs.Prelude.{nat_le}
use Rattle.std.specs.Int.{next_multiple_of}
use Rattle.std.specs.List.{list_any}
use Rattle.std.proofs.lemmas.Bool.{cond_both}
use Rattle.std.proofs.lemmas.Nat.{mod_below}
use Rattle.frame_placing.specs.Placings.{frame_alignment}
use Rattle.frame_placing.specs.declared.room.Room.{Room}

pub rounded_below : (x y : ℕ) → 0 < y → next_multiple_of x y < x + y
rounded_below x y pos = let lt = mod_below (y - x % y) y pos in omega (arith, lt)

pub alignment_within : (rooms : List Room) → (0 < frame_alignment rooms) × (frame_alignment rooms ≤ 16)
alignment_within rooms = cond_both (list_any (λ (room : Room). nat_le 16 room.align) rooms) 16 8 (λ (n : ℕ). (0 < n) × (n ≤ 16)) (λ e. (omega arith, omega arith)) (λ e. (omega arith, omega arith))
