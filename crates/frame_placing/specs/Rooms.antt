-- What fields need, and which of them is placed first.
use Rattle.std.specs.Prelude.{ℕ, ◌&&◌, ◌||◌, List, Bool, false, not, nat_eq, nat_lt, Option, None, Some, max, slice_index_or}
use Rattle.frame_placing.specs.declared.room.Room.{Room}

-- the room of a field; a position past the list has none
abbrev pub room_at : List Room → ℕ → Room
room_at rooms k = slice_index_or rooms k (record { size = 0; align = 1 })

abbrev pub size_at : List Room → ℕ → ℕ
size_at rooms k = (room_at rooms k).size

-- the alignment that a field needs, where 0 stands for 1
abbrev pub alignment_at : List Room → ℕ → ℕ
alignment_at rooms k = max (room_at rooms k).align 1

abbrev pub is_promise : Option ℕ → ℕ → Bool
is_promise None k = false
is_promise (Some p) k = nat_eq p k

-- of two fields the first needs a greater alignment, or the same and is larger, or as large and stands before it
unfoldable pub needs_more : List Room → ℕ → ℕ → Bool
needs_more rooms j k =
    nat_lt (alignment_at rooms k) (alignment_at rooms j)
    || (nat_eq (alignment_at rooms j) (alignment_at rooms k) && (nat_lt (size_at rooms k) (size_at rooms j) || (nat_eq (size_at rooms j) (size_at rooms k) && nat_lt j k)))

-- of two fields the first is placed before the second: the promise before all others, and of others that which needs more
unfoldable pub comes_first : List Room → Option ℕ → ℕ → ℕ → Bool
comes_first rooms promise j k = not (is_promise promise k) && (is_promise promise j || needs_more rooms j k)
