-- What is used of the layout of a frame, by whatever way it was found.
use Rattle.std.specs.Prelude.{◌≡◌, ◌≢◌, ◌⊎◌, ℕ, ◌+◌, ◌%◌, ◌<◌, ◌≤◌, ◌^◌, ◌||◌, ◌==◌, Bool, List, IsTrue, Some, length, max, slice_get, slice_index_or}
use Rattle.frame_placing.specs.Placed.{IsByteOf}
use Rattle.frame_layout.specs.Layouts.{is_index, is_promise, placed}
use Rattle.frame_layout.specs.declared.layout.Field.{Field}
use Rattle.frame_layout.specs.declared.layout.Layout.{Layout}
use Rattle.frame_layout.specs.declared.layout.PlacedField.{PlacedField}

-- the offset of the field at a position, in order of the text
abbrev pub offset_of : Layout → ℕ → ℕ
offset_of l k = slice_index_or l.offsets k 0

-- of two fields no byte is one of both, by their offsets and sizes
abbrev pub AreApart : ℕ → ℕ → ℕ → ℕ → Type 0
AreApart x m y n = (byte : ℕ) → IsByteOf byte x m → IsByteOf byte y n → ⊥

-- A field lies behind the header and ends in the frame. It is aligned, and the frame is aligned as it.
-- The promise is at 16, and the index where the layout says.
pub record IsGoodField (l : Layout) (x : Field) (offset : ℕ) : Type 0 where
  pub behind_header : 16 ≤ offset
  pub inside : offset + x.size ≤ l.size
  pub aligned : offset % max x.align 1 ≡ 0
  pub in_aligned : x.align ≤ l.align
  pub promise_at : IsTrue (is_promise x.kind) → offset ≡ 16
  pub index_at : IsTrue (is_index x.kind) → offset ≡ l.index

-- the layout shows the fields with their offsets, and nothing else
pub record AreShown (fields : List Field) (l : Layout) : Type 0 where
  pub each : (k : ℕ) → k < length fields → (a : ℕ) × (slice_get l.fields a ≡ Some (placed fields l.offsets k))
  pub only : (a : ℕ) (x : PlacedField) → slice_get l.fields a ≡ Some x
      → (k : ℕ) × (k < length fields) × (x ≡ placed fields l.offsets k)

-- The layout is of the coroutine. Each field lies well, and no two that conflict share a byte.
-- The alignment is 8 or 16, and the size a multiple of it from 24 to 2^24.
pub record IsGoodLayout (coroutine : ℕ) (fields : List Field) (Conflict : ℕ → ℕ → Type 0) (l : Layout) : Type 0 where
  pub is_of : l.coroutine ≡ coroutine
  pub one_each : length l.offsets ≡ length fields
  pub each : (k : ℕ) (x : Field) → slice_get fields k ≡ Some x → IsGoodField l x (offset_of l k)
  pub apart : (j k : ℕ) (x y : Field) → slice_get fields j ≡ Some x → slice_get fields k ≡ Some y → j ≢ k
      → Conflict j k → AreApart (offset_of l j) x.size (offset_of l k) y.size
  pub shown : AreShown fields l
  pub alignment : (l.align ≡ 8) ⊎ (l.align ≡ 16)
  pub rounded : l.size % l.align ≡ 0
  pub from : 24 ≤ l.size
  pub within : l.size ≤ 2 ^ 24

-- ---- the fields of which there are good layouts

-- an alignment of a field, where 0 stands for 1
abbrev pub is_alignment : ℕ → Bool
is_alignment a = (a == 0) || ((a == 1) || ((a == 2) || ((a == 4) || ((a == 8) || (a == 16)))))

-- alignments are at most 16, one field at most is the promise, and just one the index, which takes a byte at least
pub record AreFit (fields : List Field) : Type 0 where
  pub aligned : (k : ℕ) (x : Field) → slice_get fields k ≡ Some x → IsTrue (is_alignment x.align)
  pub one_promise : (j k : ℕ) (x y : Field) → slice_get fields j ≡ Some x → slice_get fields k ≡ Some y
      → IsTrue (is_promise x.kind) → IsTrue (is_promise y.kind) → j ≡ k
  pub one_index : (j k : ℕ) (x y : Field) → slice_get fields j ≡ Some x → slice_get fields k ≡ Some y
      → IsTrue (is_index x.kind) → IsTrue (is_index y.kind) → j ≡ k
  pub last : ℕ
  pub index : Field
  pub is_there : slice_get fields last ≡ Some index
  pub is_index : IsTrue (is_index index.kind)
  pub takes_bytes : 0 < index.size
