-- Tables by name, of what a coroutine's frame is built by.
use Rattle.std.specs.Prelude.{ℕ, Bool, true, false, List, [], length, replicate, slice_get, slice_set, slice_index_or, Some, None, Option, get_or, ◌+◌, ◌∷◌, if◌then◌else◌}
use Rattle.frame_contents.specs.declared.held.Holding.{Holding}
use Rattle.frame_layout.specs.declared.layout.FieldKind.{FieldKind}
use Rattle.frame_layout.specs.declared.layout.Layout.{Layout}
use Rattle.ir_model.specs.declared.module.Block.{Block}
use Rattle.ir_model.specs.declared.module.Function.{Function}
use Rattle.ir_paths.specs.Slots.{allocas_of}
use Rattle.frame_contents.specs.frame_classes.declared.class.SlotClass.{SlotClass}
use Rattle.pass_cells.specs.Links.{field_name}

-- ---- classes

abbrev pub is_same_class : SlotClass → SlotClass → Bool
is_same_class SlotClass.Ramp SlotClass.Ramp = true
is_same_class SlotClass.Local SlotClass.Local = true
is_same_class SlotClass.Frame SlotClass.Frame = true
is_same_class _ _ = false

abbrev pub is_of : SlotClass → Option SlotClass → Bool
is_of class None = false
is_of class (Some c) = is_same_class class c

abbrev pub with_slot : SlotClass → Option SlotClass → ℕ → List Bool → List Bool
with_slot class found slot flags = if is_of class found then slice_set flags slot true else flags

-- the allocas, of which the first has the number k, that are of the class
abbrev pub with_slots : SlotClass → List SlotClass → ℕ → List ℕ → List Bool → List Bool
with_slots class classes k [] flags = flags
with_slots class classes k (slot ∷ slots) flags = with_slots class classes (k + 1) slots (with_slot class (slice_get classes k) slot flags)

-- for each name whether it is an alloca of the class
abbrev pub class_flags : Function → List SlotClass → SlotClass → List Bool
class_flags f classes class = with_slots class classes 0 (allocas_of f) (replicate (length f.names) false)

-- ---- labels

abbrev pub with_label : Option Block → List Bool → List Bool
with_label None flags = flags
with_label (Some b) flags = slice_set flags b.label true

abbrev pub with_labels : Function → List ℕ → List Bool → List Bool
with_labels f [] flags = flags
with_labels f (b ∷ bs) flags = with_labels f bs (with_label (slice_get f.blocks b) flags)

-- for each name whether it is the label of one of these blocks
abbrev pub label_flags : Function → List ℕ → List Bool
label_flags f blocks = with_labels f blocks (replicate (length f.names) false)

-- ---- sizes

abbrev pub with_sizes : List Holding → List ℕ → List ℕ
with_sizes [] sizes = sizes
with_sizes (h ∷ hs) sizes = with_sizes hs (slice_set sizes h.value h.size)

-- for each name the bytes that its field takes
abbrev pub sizes_by_name : Function → List Holding → List ℕ
sizes_by_name f held = with_sizes held (replicate (length f.names) 0)

-- ---- offsets

abbrev pub is_slot_kind : FieldKind → Bool
is_slot_kind FieldKind.Promise = true
is_slot_kind FieldKind.Slot = true
is_slot_kind FieldKind.Value = false
is_slot_kind FieldKind.Index = false
is_slot_kind FieldKind.Frame = false

-- the offset of the field at a position, in order of the text
abbrev pub offset_at : Layout → ℕ → ℕ
offset_at l k = slice_index_or l.offsets k 0

abbrev pub with_slot_offset : Layout → ℕ → Holding → List (Option ℕ) → List (Option ℕ)
with_slot_offset l k h table = if is_slot_kind h.kind then slice_set table h.value (Some (offset_at l k)) else table

-- what is held in order of the text, from the k-th on: a slot lies at the offset of its field
abbrev pub with_slot_offsets : Layout → ℕ → List Holding → List (Option ℕ) → List (Option ℕ)
with_slot_offsets l k [] table = table
with_slot_offsets l k (h ∷ hs) table = with_slot_offsets l (k + 1) hs (with_slot_offset l k h table)

abbrev pub with_field_offset : Layout → ℕ → Option ℕ → List (Option ℕ) → List (Option ℕ)
with_field_offset l name None table = table
with_field_offset l name (Some position) table = slice_set table name (Some (offset_at l position))

-- the values that are kept, from the k-th on: the field of each, a slot of its own, lies at the offset of its place in the layout
abbrev pub with_field_offsets : Layout → List (Option ℕ) → ℕ → ℕ → ℕ → List ℕ → List (Option ℕ) → List (Option ℕ)
with_field_offsets l positions first count k [] table = table
with_field_offsets l positions first count k (v ∷ vs) table =
    with_field_offsets l positions first count (k + 1) vs (with_field_offset l (field_name first count k) (get_or positions v None) table)
