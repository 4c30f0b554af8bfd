-- Where fields lie: the promise behind the header, and each other field at the least offset at which it can stand.
use Rattle.std.specs.Prelude.{◌≡◌, ℕ, ◌+◌, ◌%◌, ◌<◌, ◌≤◌, ◌⊎◌, List, [], Option, IsTrue, IsFalse, get_or, length, slice_index}
use Rattle.std.specs.List.{Contains}
use Rattle.frame_placing.specs.Rooms.{alignment_at, comes_first, is_promise, size_at}
use Rattle.frame_placing.specs.declared.room.Room.{Room}

-- the byte is one of those of a field of this size at this offset
abbrev pub IsByteOf : ℕ → ℕ → ℕ → Type 0
IsByteOf byte offset size = (offset ≤ byte) × (byte < offset + size)

-- the byte is one of a field in conflict with the field, which is placed before it
pub record IsTaken (rooms : List Room) (promise : Option ℕ) (Conflict : ℕ → ℕ → Type 0) (offsets : List ℕ) (k byte : ℕ) : Type 0 where
  pub by : ℕ
  pub is_field : by < length rooms
  pub is_before : IsTrue (comes_first rooms promise by k)
  pub in_conflict : Conflict by k
  pub is_its : IsByteOf byte (slice_index offsets by) (size_at rooms by)

-- the field can stand at the offset: behind the header, aligned, and on no byte that is taken
pub record CanStand (rooms : List Room) (promise : Option ℕ) (Conflict : ℕ → ℕ → Type 0) (offsets : List ℕ) (k x : ℕ) : Type 0 where
  pub from_header : 16 ≤ x
  pub aligned : x % alignment_at rooms k ≡ 0
  pub apart : (byte : ℕ) → IsByteOf byte x (size_at rooms k) → IsTaken rooms promise Conflict offsets k byte → ⊥

-- the offset is the field's: 16 for the promise, and the least at which it can stand for another
pub record IsItsPlace (rooms : List Room) (promise : Option ℕ) (Conflict : ℕ → ℕ → Type 0) (offsets : List ℕ) (k x : ℕ) : Type 0 where
  pub promise_behind_header : IsTrue (is_promise promise k) → x ≡ 16
  pub can_stand : IsFalse (is_promise promise k) → CanStand rooms promise Conflict offsets k x
  pub least : IsFalse (is_promise promise k) → (y : ℕ) → CanStand rooms promise Conflict offsets k y → x ≤ y

-- an offset for each field, at which it is placed
pub record IsPlaced (rooms : List Room) (promise : Option ℕ) (Conflict : ℕ → ℕ → Type 0) (offsets : List ℕ) : Type 0 where
  pub one_each : length offsets ≡ length rooms
  pub each : (k : ℕ) → k < length rooms → IsItsPlace rooms promise Conflict offsets k (slice_index offsets k)

-- fields conflict where one of the pairs names them, in either order
abbrev pub IsPair : List (ℕ × ℕ) → ℕ → ℕ → Type 0
IsPair conflicts j k = Contains conflicts (j, k) ⊎ Contains conflicts (k, j)

-- of one group the first field is on the one side, and the second on the other; the lists have the groups of each field by side
pub record AreOpposed (one other : List (List ℕ)) (j k : ℕ) : Type 0 where
  pub group : ℕ
  pub is_one : Contains (get_or one j []) group
  pub is_other : Contains (get_or other k []) group

-- fields conflict where one of the pairs names them, or where they are on two sides of one group
abbrev pub AreKeptApart : List (ℕ × ℕ) → List (List ℕ) → List (List ℕ) → ℕ → ℕ → Type 0
AreKeptApart conflicts one other j k = IsPair conflicts j k ⊎ (AreOpposed one other j k ⊎ AreOpposed one other k j)

-- in the plain layout all conflict
abbrev pub Always : ℕ → ℕ → Type 0
Always j k = Unit {0}
