-- The bytes of fields on the sides of groups.
use Rattle.std.specs.Prelude.{◌≡◌, ℕ, ◌<◌, ◌⊎◌, List, [], ◌∷◌, ◌++◌, Some, get_or, slice_get, slice_index}
use Rattle.std.specs.List.{Contains}
use Rattle.frame_placing.specs.Bars.{AreBars, IsCovered, IsInBar}
use Rattle.frame_placing.specs.Placed.{IsByteOf}
use Rattle.frame_placing.specs.Rooms.{size_at}
use Rattle.frame_placing.specs.Steps.{IsOfOne}
use Rattle.frame_placing.specs.declared.bars.Bar.{Bar}
use Rattle.frame_placing.specs.declared.room.Room.{Room}

-- the bars of these groups, one list behind the other
abbrev pub bars_of_groups : List (List Bar) → List ℕ → List Bar
bars_of_groups side [] = []
bars_of_groups side (g ∷ gs) = get_or side g [] ++ bars_of_groups side gs

-- the byte lies in a bar of one of the groups
pub record IsInGroups (side : List (List Bar)) (groups : List ℕ) (byte : ℕ) : Type 0 where
  pub group : ℕ
  pub is_listed : Contains groups group
  pub is_covered : IsCovered (get_or side group []) byte

-- each group has bars in order
abbrev pub AreAllBars : List (List Bar) → Type 0
AreAllBars side = (g : ℕ) → AreBars (get_or side g [])

-- the bars of these groups cover the bytes of one more bar
pub record AreMoreAt (old : List (List Bar)) (groups : List ℕ) (more : Bar) (new : List (List Bar)) : Type 0 where
  pub are_bars : AreAllBars new
  pub told : (g byte : ℕ) → IsCovered (get_or new g []) byte → IsCovered (get_or old g []) byte ⊎ (Contains groups g × IsInBar byte more)
  pub has_others : (g byte : ℕ) → IsCovered (get_or old g []) byte → IsCovered (get_or new g []) byte
  pub has_more : (g byte : ℕ) → Contains groups g → IsInBar byte more → IsCovered (get_or new g []) byte

-- the byte is one of a field among the first of the order, which is on the side of the group
pub record IsOfSide (rooms : List Room) (order : List ℕ) (done : ℕ) (offsets : List ℕ) (rows : List (List ℕ)) (group byte : ℕ) : Type 0 where
  pub at : ℕ
  pub by : ℕ
  pub is_done : at < done
  pub is_there : slice_get order at ≡ Some by
  pub is_on : Contains (get_or rows by []) group
  pub is_its : IsByteOf byte (slice_index offsets by) (size_at rooms by)

-- for each group the bars cover the bytes of the first fields of the order on its side
pub record CoverSide (rooms : List Room) (order : List ℕ) (done : ℕ) (offsets : List ℕ) (rows : List (List ℕ)) (side : List (List Bar)) : Type 0 where
  pub are_bars : AreAllBars side
  pub of_side : (g byte : ℕ) → IsCovered (get_or side g []) byte → IsOfSide rooms order done offsets rows g byte
  pub covered : (g byte : ℕ) → IsOfSide rooms order done offsets rows g byte → IsCovered (get_or side g []) byte

-- the bars cover the bytes of the fields of the list, and those on the other side of each group of the field
pub record CoverTaken (rooms : List Room) (offsets fields : List ℕ) (ones others : List (List Bar)) (one other : List ℕ) (bars : List Bar) : Type 0 where
  pub are_bars : AreBars bars
  pub told : (byte : ℕ) → IsCovered bars byte → IsOfOne rooms offsets fields byte ⊎ (IsInGroups others one byte ⊎ IsInGroups ones other byte)
  pub has_fields : (byte : ℕ) → IsOfOne rooms offsets fields byte → IsCovered bars byte
  pub has_others : (byte : ℕ) → IsInGroups others one byte → IsCovered bars byte
  pub has_ones : (byte : ℕ) → IsInGroups ones other byte → IsCovered bars byte
