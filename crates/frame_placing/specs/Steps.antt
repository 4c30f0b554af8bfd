-- The steps of placing: the order of the fields, and how far it was gone.
use Rattle.std.specs.Prelude.{◌≡◌, ℕ, ◌+◌, ◌^◌, ◌<◌, ◌≤◌, ◌&&◌, List, [], ◌∷◌, ◌++◌, Option, Some, IsTrue, get_or, if◌then◌else◌, length, nat_lt, slice_get, slice_index, slice_set}
use Rattle.std.specs.List.{Contains}
use Rattle.frame_placing.specs.Bars.{AreBars, IsCovered, IsFree, IsLeastFree}
use Rattle.frame_placing.specs.Ends.{end_of}
use Rattle.frame_placing.specs.Placed.{IsByteOf, IsItsPlace, IsPlaced, IsTaken}
use Rattle.frame_placing.specs.Placings.{chosen_offsets}
use Rattle.frame_placing.specs.Rooms.{alignment_at, comes_first, is_promise, size_at}
use Rattle.frame_placing.specs.declared.bars.Bar.{Bar}
use Rattle.frame_placing.specs.declared.room.Room.{Room}

-- each field once, those that come first before the others
pub record IsOrder (rooms : List Room) (promise : Option ℕ) (order : List ℕ) : Type 0 where
  pub inside : (a k : ℕ) → slice_get order a ≡ Some k → k < length rooms
  pub has_each : (k : ℕ) → k < length rooms → (a : ℕ) × (slice_get order a ≡ Some k)
  pub has_once : (a b k : ℕ) → slice_get order a ≡ Some k → slice_get order b ≡ Some k → a ≡ b
  pub rises : (a b j k : ℕ) → slice_get order a ≡ Some j → slice_get order b ≡ Some k → IsTrue (comes_first rooms promise j k) → a < b

-- the first fields of the order are placed, none past the limit, and nowhere else than any placing has them
pub record IsUnderway (rooms : List Room) (promise : Option ℕ) (Conflict : ℕ → ℕ → Type 0) (order : List ℕ) (limit done : ℕ) (offsets : List ℕ) : Type 0 where
  pub one_each : length offsets ≡ length rooms
  pub placed : (a k : ℕ) → a < done → slice_get order a ≡ Some k → IsItsPlace rooms promise Conflict offsets k (slice_index offsets k)
  pub within : (a k : ℕ) → a < done → slice_get order a ≡ Some k → slice_index offsets k + size_at rooms k ≤ limit
  pub only : (other : List ℕ) → IsPlaced rooms promise Conflict other → (a k : ℕ) → a < done → slice_get order a ≡ Some k → slice_index other k ≡ slice_index offsets k

-- the bars cover the bytes that are taken for the field
pub record AreTaken (rooms : List Room) (promise : Option ℕ) (Conflict : ℕ → ℕ → Type 0) (offsets : List ℕ) (k : ℕ) (bars : List Bar) : Type 0 where
  pub taken : (byte : ℕ) → IsCovered bars byte → IsTaken rooms promise Conflict offsets k byte
  pub covered : (byte : ℕ) → IsTaken rooms promise Conflict offsets k byte → IsCovered bars byte

-- the alignment by which a field is placed: the promise stands behind the header, whatever it needs
abbrev pub placed_by : List Room → Option ℕ → ℕ → ℕ
placed_by rooms promise k = (if is_promise promise k then 1 else alignment_at rooms k)

-- the field would end behind the limit wherever it meets no bar
abbrev pub HasNoRoom : List Room → Option ℕ → List Bar → ℕ → ℕ → Type 0
HasNoRoom rooms promise bars k limit = (x : ℕ) → IsFree bars (size_at rooms k) (placed_by rooms promise k) x → limit < x + size_at rooms k

-- the least offset at which the field meets no bar
pub record HasRoom (rooms : List Room) (promise : Option ℕ) (bars : List Bar) (k limit x : ℕ) : Type 0 where
  pub is_least : IsLeastFree bars (size_at rooms k) (placed_by rooms promise k) x
  pub within : x + size_at rooms k ≤ limit

-- the byte is one of a field of the list
pub record IsOfOne (rooms : List Room) (offsets fields : List ℕ) (byte : ℕ) : Type 0 where
  pub by : ℕ
  pub is_listed : Contains fields by
  pub is_its : IsByteOf byte (slice_index offsets by) (size_at rooms by)

-- the bars cover the bytes of the fields of the list
pub record CoverFields (rooms : List Room) (offsets fields : List ℕ) (bars : List Bar) : Type 0 where
  pub are_bars : AreBars bars
  pub of_one : (byte : ℕ) → IsCovered bars byte → IsOfOne rooms offsets fields byte
  pub covered : (byte : ℕ) → IsOfOne rooms offsets fields byte → IsCovered bars byte

-- the byte is one of a field among the first of the order
pub record IsOfFirst (rooms : List Room) (order : List ℕ) (done : ℕ) (offsets : List ℕ) (byte : ℕ) : Type 0 where
  pub at : ℕ
  pub by : ℕ
  pub is_done : at < done
  pub is_there : slice_get order at ≡ Some by
  pub is_its : IsByteOf byte (slice_index offsets by) (size_at rooms by)

-- the bars cover the bytes of the first fields of the order
pub record CoverFirst (rooms : List Room) (order : List ℕ) (done : ℕ) (offsets : List ℕ) (bars : List Bar) : Type 0 where
  pub are_bars : AreBars bars
  pub of_first : (byte : ℕ) → IsCovered bars byte → IsOfFirst rooms order done offsets byte
  pub covered : (byte : ℕ) → IsOfFirst rooms order done offsets byte → IsCovered bars byte

-- the rows with the first field in the second's row, if it comes first
unfoldable pub with_note : List Room → Option ℕ → ℕ → ℕ → List (List ℕ) → List (List ℕ)
with_note rooms promise first second rows =
    (if nat_lt first (length rooms) && (nat_lt second (length rows) && comes_first rooms promise first second) then slice_set rows second (get_or rows second [] ++ first ∷ []) else rows)

-- a row for each field, of those in conflict with it that come first
pub record AreEarlier (rooms : List Room) (promise : Option ℕ) (Conflict : ℕ → ℕ → Type 0) (rows : List (List ℕ)) : Type 0 where
  pub one_each : length rows ≡ length rooms
  pub listed : (k j : ℕ) (row : List ℕ) → slice_get rows k ≡ Some row → Contains row j → (j < length rooms) × (IsTrue (comes_first rooms promise j k) × Conflict j k)
  pub lists : (k j : ℕ) (row : List ℕ) → slice_get rows k ≡ Some row → j < length rooms → IsTrue (comes_first rooms promise j k) → Conflict j k → Contains row j

-- any offsets at which the fields are placed end behind the limit
abbrev pub NoneWithin : List Room → Option ℕ → (ℕ → ℕ → Type 0) → ℕ → Type 0
NoneWithin rooms promise Conflict limit = (other : List ℕ) → IsPlaced rooms promise Conflict other → limit < end_of rooms other

-- the fields are placed at the offsets, and end at or before the limit
pub record IsPlacedWithin (rooms : List Room) (promise : Option ℕ) (Conflict : ℕ → ℕ → Type 0) (limit : ℕ) (offsets : List ℕ) : Type 0 where
  pub placed : IsPlaced rooms promise Conflict offsets
  pub each_within : (k : ℕ) → k < length rooms → slice_index offsets k + size_at rooms k ≤ limit
  pub ends : end_of rooms offsets ≤ limit

-- the offsets are chosen between the plain ones and those by the conflicts
pub record AreChosen (rooms : List Room) (promise : Option ℕ) (Conflict : ℕ → ℕ → Type 0) (plain offsets : List ℕ) : Type 0 where
  pub shared : List ℕ
  pub shared_placed : IsPlaced rooms promise Conflict shared
  pub chosen : offsets ≡ chosen_offsets rooms plain shared
  pub one_each : length offsets ≡ length rooms
  pub each_within : (k : ℕ) → k < length rooms → slice_index offsets k + size_at rooms k ≤ 2 ^ 24
