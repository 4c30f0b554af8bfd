-- Where the last byte of a layout lies.
use Rattle.std.specs.Prelude.{ℕ, zero, suc, ◌+◌, List, length, max, slice_index}
use Rattle.frame_placing.specs.Rooms.{size_at}
use Rattle.frame_placing.specs.declared.room.Room.{Room}

-- the greatest end of the header and the first fields
unfoldable pub end_of_first : List Room → List ℕ → ℕ → ℕ
end_of_first rooms offsets zero = 16
end_of_first rooms offsets (suc k) = max (end_of_first rooms offsets k) (slice_index offsets k + size_at rooms k)

-- the greatest end of the header and the fields
abbrev pub end_of : List Room → List ℕ → ℕ
end_of rooms offsets = end_of_first rooms offsets (length rooms)
