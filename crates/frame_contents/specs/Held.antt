-- What the frame of a coroutine holds.
use Rattle.std.specs.Prelude.{ℕ, Bool, true, false, List, [], None, Some, Option, get_or, length, map, option_to_list, slice_get, ◌+◌, ◌∷◌, ◌++◌, ◌==◌, if◌then◌else◌}
use Rattle.frame_layout.specs.Frames.{index_size}
use Rattle.frame_layout.specs.declared.layout.Field.{Field}
use Rattle.frame_layout.specs.declared.layout.FieldKind.{FieldKind}
use Rattle.ir_parts.specs.Contents.{result_of}
use Rattle.ir_model.specs.Layout.{bytes_of_width, size_of}
use Rattle.ir_model.specs.Ty.{Ty, array, int, named, ptr, structure, token}
use Rattle.ir_model.specs.declared.instr.Instr.{Instr}
use Rattle.ir_model.specs.declared.instr.Phi.{Phi}
use Rattle.ir_model.specs.declared.module.Block.{Block}
use Rattle.ir_model.specs.declared.module.Function.{Function}
use Rattle.ir_model.specs.declared.module.Module.{Module}
use Rattle.ir_model.specs.declared.module.Param.{Param}
use Rattle.ir_model.specs.declared.operand.Intrinsic.{Intrinsic}
use Rattle.ir_paths.specs.Slots.{allocas_of, has_name, promise_of}
use Rattle.ir_paths.specs.Windows.{is_call_of, points_where}
use Rattle.frame_contents.specs.declared.held.Holding.{Holding}
use Rattle.frame_conflicts.specs.frame_classes.declared.class.SlotClass.{SlotClass}
use Rattle.ir_sizes.specs.Cut.{capped}

-- ---- what is kept

-- the values of a list of pairs
abbrev pub crossing_values : List (ℕ × ℕ) → List ℕ
crossing_values crossing = map (λ p. p.0) crossing

abbrev pub is_frame : Option SlotClass → Bool
is_frame None = false
is_frame (Some SlotClass.Ramp) = false
is_frame (Some SlotClass.Local) = false
is_frame (Some SlotClass.Frame) = true

-- the allocas of the class of frame slots, from the k-th on
abbrev pub frame_slots_from : List SlotClass → ℕ → List ℕ → List ℕ
frame_slots_from classes k [] = []
frame_slots_from classes k (slot ∷ slots) = (if is_frame (slice_get classes k) then slot ∷ [] else []) ++ frame_slots_from classes (k + 1) slots

abbrev pub frame_slots : Function → List SlotClass → List ℕ
frame_slots f classes = frame_slots_from classes 0 (allocas_of f)

-- ---- sizes, in bytes

-- a value takes the bytes of its width, a pointer 8
abbrev pub value_size : Ty → ℕ
value_size (int w) = bytes_of_width w
value_size ptr = 8
value_size token = 0
value_size (array n t) = 0
value_size (structure ts) = 0
value_size (named n) = 0

abbrev pub answer_size : Option Ty → ℕ
answer_size None = 0
answer_size (Some ty) = value_size ty

-- the size of an instruction's result
abbrev pub result_size : Instr → ℕ
result_size (Instr.Binary r op flags ty left right) = value_size ty
result_size (Instr.Icmp r pred ty left right) = 1
result_size (Instr.Select r c a b) = value_size a.ty
result_size (Instr.Cast r op nneg arg to) = value_size to
result_size (Instr.Alloca r ty align) = 8
result_size (Instr.Load r ty address align) = value_size ty
result_size (Instr.Store arg address align) = 0
result_size (Instr.Gep r inbounds ty base indices) = 8
result_size (Instr.Call r must_tail ty callee args) = answer_size ty

-- ---- in order of the text

-- a value is aligned as it is large
abbrev pub value_held : ℕ → ℕ → Holding
value_held v size = record { kind = FieldKind.Value; value = v; size = size; align = size }

abbrev pub slot_kind : Option ℕ → ℕ → FieldKind
slot_kind promise v = if has_name (option_to_list promise) v then FieldKind.Promise else FieldKind.Slot

-- a slot has the size of its type and the alignment that is written
abbrev pub slot_held : Module → Option ℕ → ℕ → Ty → ℕ → Holding
slot_held m promise v ty align = record { kind = slot_kind promise v; value = v; size = capped (size_of m ty); align = align }

abbrev pub if_value : (ℕ → Bool) → ℕ → ℕ → List Holding
if_value is_value v size = if is_value v then value_held v size ∷ [] else []

abbrev pub if_result : (ℕ → Bool) → Option ℕ → ℕ → List Holding
if_result is_value None size = []
if_result is_value (Some v) size = if_value is_value v size

abbrev pub held_params : (ℕ → Bool) → List Param → List Holding
held_params is_value [] = []
held_params is_value (p ∷ ps) = if_value is_value p.name (value_size p.ty) ++ held_params is_value ps

abbrev pub held_phis : (ℕ → Bool) → List Phi → List Holding
held_phis is_value [] = []
held_phis is_value (p ∷ ps) = if_value is_value p.result (value_size p.ty) ++ held_phis is_value ps

-- an alloca holds a slot, any other instruction its result
abbrev pub held_instr : Module → Option ℕ → (ℕ → Bool) → (ℕ → Bool) → Instr → List Holding
held_instr m promise is_value is_slot (Instr.Alloca r ty align) = if is_slot r then slot_held m promise r ty align ∷ [] else []
held_instr m promise is_value is_slot i = if_result is_value (result_of i) (result_size i)

abbrev pub held_instrs : Module → Option ℕ → (ℕ → Bool) → (ℕ → Bool) → List Instr → List Holding
held_instrs m promise is_value is_slot [] = []
held_instrs m promise is_value is_slot (i ∷ is) = held_instr m promise is_value is_slot i ++ held_instrs m promise is_value is_slot is

abbrev pub held_blocks : Module → Option ℕ → (ℕ → Bool) → (ℕ → Bool) → List Block → List Holding
held_blocks m promise is_value is_slot [] = []
held_blocks m promise is_value is_slot (b ∷ bs) =
    held_phis is_value b.phis ++ held_instrs m promise is_value is_slot b.instrs ++ held_blocks m promise is_value is_slot bs

-- of parameters by position, then by block and instruction, the values and slots that pass the tests
abbrev pub held_by : Module → Function → (ℕ → Bool) → (ℕ → Bool) → List Holding
held_by m f is_value is_slot = held_params is_value f.params ++ held_blocks m (promise_of f) is_value is_slot f.blocks

-- the values that cross suspends and the frame slots, in order of the text
abbrev pub held_of : Module → Function → List SlotClass → List (ℕ × ℕ) → List Holding
held_of m f classes crossing = held_by m f (has_name (crossing_values crossing)) (has_name (frame_slots f classes))

-- ---- fields

abbrev pub field_of : Function → Holding → Field
field_of f h = record { kind = h.kind; name = slice_get f.names h.value; size = h.size; align = h.align }

abbrev pub suspend_count : Function → ℕ
suspend_count f = length (points_where (is_call_of Intrinsic.CoroSuspend) f)

abbrev pub index_field : Function → Field
index_field f = record { kind = FieldKind.Index; name = None; size = index_size (suspend_count f); align = index_size (suspend_count f) }

-- what is held, and the index last
abbrev pub fields_of : Function → List Holding → List Field
fields_of f held = map (field_of f) held ++ index_field f ∷ []

-- ---- positions

abbrev pub position_from : ℕ → List Holding → ℕ → Option ℕ
position_from k [] v = None
position_from k (h ∷ hs) v = if h.value == v then Some k else position_from (k + 1) hs v

-- the position of a value's or a slot's field
abbrev pub position_of : List Holding → ℕ → Option ℕ
position_of held v = position_from 0 held v

-- the position of the field of an alloca, by its number
abbrev pub slot_position : Function → List Holding → ℕ → Option ℕ
slot_position f held i = get_or (map (position_of held) (allocas_of f)) i None

abbrev pub pair_with : Option ℕ → ℕ → List (ℕ × ℕ)
pair_with None s = []
pair_with (Some k) s = (k, s) ∷ []

-- the pairs with positions of fields for what stands first in them
abbrev pub at_fields : (ℕ → Option ℕ) → List (ℕ × ℕ) → List (ℕ × ℕ)
at_fields at [] = []
at_fields at (p ∷ ps) = pair_with (at p.0) p.1 ++ at_fields at ps

abbrev pub both_with : Option ℕ → Option ℕ → List (ℕ × ℕ)
both_with None b = []
both_with (Some j) None = []
both_with (Some j) (Some k) = (j, k) ∷ []

-- and for both
abbrev pub both_at_fields : (ℕ → Option ℕ) → List (ℕ × ℕ) → List (ℕ × ℕ)
both_at_fields at [] = []
both_at_fields at (p ∷ ps) = both_with (at p.0) (at p.1) ++ both_at_fields at ps

-- the positions of fields of these
abbrev pub field_positions : (ℕ → Option ℕ) → List ℕ → List ℕ
field_positions at [] = []
field_positions at (i ∷ is) = option_to_list (at i) ++ field_positions at is
