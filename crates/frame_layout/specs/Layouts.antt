-- The layout of a frame by its fields.
use Rattle.std.specs.Prelude.{◌≡◌, ℕ, Bool, true, false, ◌<◌, ◌&&◌, ◌||◌, ◌==◌, List, Option, None, Some, Result, Ok, Err, IsTrue, length, map, nat_lt, position, slice_get, slice_index_or, unwrap_or}
use Rattle.frame_placing.specs.Placings.{IsPlacing, IsPlainPlacing}
use Rattle.frame_placing.specs.declared.placing.Placing.{Placing}
use Rattle.frame_placing.specs.declared.room.Room.{Room}
use Rattle.frame_layout.specs.declared.layout.Field.{Field}
use Rattle.frame_layout.specs.declared.layout.FieldKind.{FieldKind}
use Rattle.frame_layout.specs.declared.layout.Layout.{Layout}
use Rattle.frame_layout.specs.declared.layout.PlacedField.{PlacedField}
use Rattle.frame_layout.specs.declared.laying.LayoutError.{LayoutError}

-- ---- what is placed

abbrev pub room_of : Field → Room
room_of f = record { size = f.size; align = f.align }

abbrev pub rooms_of : List Field → List Room
rooms_of fields = map room_of fields

abbrev pub is_promise : FieldKind → Bool
is_promise FieldKind.Promise = true
is_promise FieldKind.Value = false
is_promise FieldKind.Slot = false
is_promise FieldKind.Index = false
is_promise FieldKind.Frame = false

abbrev pub is_index : FieldKind → Bool
is_index FieldKind.Promise = false
is_index FieldKind.Value = false
is_index FieldKind.Slot = false
is_index FieldKind.Index = true
is_index FieldKind.Frame = false

-- the position of the promise
abbrev pub promise_of : List Field → Option ℕ
promise_of fields = position (λ f. is_promise f.kind) fields

-- the offset of the index
abbrev pub index_offset : List Field → List ℕ → ℕ
index_offset fields offsets = slice_index_or offsets (unwrap_or (position (λ f. is_index f.kind) fields) (length fields)) 0

-- ---- fields in order of offset

-- of two fields the first has the lower offset, or the same and stands before it in the text
unfoldable pub lies_before : List ℕ → ℕ → ℕ → Bool
lies_before offsets j k =
    nat_lt (slice_index_or offsets j 0) (slice_index_or offsets k 0)
    || ((slice_index_or offsets j 0 == slice_index_or offsets k 0) && nat_lt j k)

-- each position once, those that lie before others earlier
pub record IsOrder (offsets order : List ℕ) : Type 0 where
  pub inside : (a k : ℕ) → slice_get order a ≡ Some k → k < length offsets
  pub has_each : (k : ℕ) → k < length offsets → (a : ℕ) × (slice_get order a ≡ Some k)
  pub has_once : (a b k : ℕ) → slice_get order a ≡ Some k → slice_get order b ≡ Some k → a ≡ b
  pub rises : (a b j k : ℕ) → slice_get order a ≡ Some j → slice_get order b ≡ Some k → IsTrue (lies_before offsets j k) → a < b

abbrev pub placed_or : Option Field → ℕ → PlacedField
placed_or None offset = record { kind = FieldKind.Index; name = None; offset = offset; size = 0 }
placed_or (Some f) offset = record { kind = f.kind; name = f.name; offset = offset; size = f.size }

-- the field at a position with its offset
abbrev pub placed : List Field → List ℕ → ℕ → PlacedField
placed fields offsets k = placed_or (slice_get fields k) (slice_index_or offsets k 0)

-- ---- the layout

-- the layout of a coroutine has the offsets, the size and the alignment of the placing
pub record IsLayoutBy (coroutine : ℕ) (fields : List Field) (placing : Placing) (layout : Layout) : Type 0 where
  pub coroutine_is : layout.coroutine ≡ coroutine
  pub size_is : layout.size ≡ placing.size
  pub align_is : layout.align ≡ placing.align
  pub offsets_are : layout.offsets ≡ placing.offsets
  pub index_is : layout.index ≡ index_offset fields placing.offsets
  pub order : List ℕ
  pub is_order : IsOrder placing.offsets order
  pub fields_are : layout.fields ≡ map (placed fields placing.offsets) order

-- the fields are placed by these conflicts
abbrev pub IsPlaced : List Field → List (ℕ × ℕ) → Option Placing → Type 0
IsPlaced fields conflicts found = IsPlacing (rooms_of fields) (promise_of fields) conflicts found

abbrev pub IsPlacedPlain : List Field → Option Placing → Type 0
IsPlacedPlain fields found = IsPlainPlacing (rooms_of fields) (promise_of fields) found

-- the layout by a way of placing, or that the frame is too large, where it gives none
abbrev pub IsLaidBy : (Option Placing → Type 0) → ℕ → List Field → Result Layout LayoutError → Type 0
IsLaidBy Placed coroutine fields (Ok layout) = (placing : Placing) × Placed (Some placing) × IsLayoutBy coroutine fields placing layout
IsLaidBy Placed coroutine fields (Err LayoutError.FrameTooLarge) = Placed None
IsLaidBy Placed coroutine fields (Err LayoutError.OutOfMemory) = Unit {0}

-- the layout by the conflicts; the frame is too large exactly where the plain layout ends above 2^24
abbrev pub IsLaidOut : ℕ → List Field → List (ℕ × ℕ) → Result Layout LayoutError → Type 0
IsLaidOut coroutine fields conflicts result = IsLaidBy (IsPlaced fields conflicts) coroutine fields result

-- the plain layout
abbrev pub IsLaidOutPlain : ℕ → List Field → Result Layout LayoutError → Type 0
IsLaidOutPlain coroutine fields result = IsLaidBy (IsPlacedPlain fields) coroutine fields result
