-- Rule K9: addresses of coroutine slots used before begin.
use Rattle.std.specs.Prelude.{ℕ, Bool, false, not, List, [], length, drop, unwrap_or, slice_get, Some, None, IsTrue, Option, ◌<◌, ◌≡◌, ◌↔◌, ◌&&◌, ◌||◌, ◌∷◌, ◌++◌, ◌⊎◌, if◌then◌else◌}
use Rattle.std.specs.List.{Any, list_all, list_any}
use Rattle.ir_base.specs.declared.outcome.Place.{Place}
use Rattle.ir_parts.specs.Contents.{arg_operands, callee_operands, ending_operands, instr_operands}
use Rattle.ir_parts.specs.Parts.{Part, OfPhi, OfInstr, Ending, parts_of}
use Rattle.ir_model.specs.Names.{position_of}
use Rattle.ir_model.specs.declared.instr.Incoming.{Incoming}
use Rattle.ir_model.specs.declared.instr.Instr.{Instr}
use Rattle.ir_model.specs.declared.module.Block.{Block}
use Rattle.ir_model.specs.declared.module.Function.{Function}
use Rattle.ir_model.specs.declared.operand.Arg.{Arg}
use Rattle.ir_model.specs.declared.operand.Callee.{Callee}
use Rattle.ir_model.specs.declared.operand.Operand.{Operand}
use Rattle.ir_paths.specs.Slots.{is_memcpy, is_no_use}
use Rattle.ir_paths.specs.Windows.{operand_at}
use Rattle.ir_paths.specs.declared.point.Point.{Point}
use Rattle.flow_points.specs.Rows.{is_marked}
use Rattle.rule_slots.specs.Names.{names_one, names_other}
use Rattle.rule_slots.specs.Slots.{NamesAddress, NamesPart}
use Rattle.rule_windows.specs.First.{IsFirst}
use Rattle.rule_windows.specs.Points.{entry, point_of}
use Rattle.rule_windows.specs.Sets.{IsWithoutBegin}

-- ---- where uses stand

-- a path from the entry leads to the point without passing begin; begin's own operands count, also where it is the entry itself
abbrev pub IsBeforeBegin : Function → Point → Type 0
IsBeforeBegin f p = (p ≡ entry) ⊎ IsWithoutBegin f p

abbrev pub instr_count : Option Block → ℕ
instr_count None = 0
instr_count (Some b) = length b.instrs

-- the end of a block
abbrev pub end_at : Function → ℕ → Point
end_at f block = record { block = block; at = instr_count (slice_get f.blocks block) }

-- the end of the block of a label
abbrev pub end_of : Function → ℕ → Point
end_of f label = end_at f (position_of f label)

-- ---- uses

-- the uses among the operands of a call, apart from the pointers of a memcpy; a marker and coro.id use nothing, whatever address they take
abbrev pub call_uses : Callee → List Arg → List Operand
call_uses callee args =
    if is_no_use callee then [] else if is_memcpy callee then arg_operands (drop 2 args) else callee_operands callee ++ arg_operands args

-- the operands of an instruction that are uses otherwise than as the address of a load, store or memcpy
abbrev pub other_uses : Instr → List Operand
other_uses (Instr.Load name ty p align) = []
other_uses (Instr.Store arg p align) = arg.value ∷ []
other_uses (Instr.Call result must_tail ty callee args) = call_uses callee args
other_uses i = instr_operands i

-- the operands that are the addresses of a load, store or memcpy
abbrev pub memory_uses : Instr → List Operand
memory_uses (Instr.Load name ty p align) = p ∷ []
memory_uses (Instr.Store arg p align) = p ∷ []
memory_uses (Instr.Call result must_tail ty callee args) = if is_memcpy callee then operand_at args 0 ∷ operand_at args 1 ∷ [] else []
memory_uses i = []

-- an address of a coroutine slot is used otherwise than directly as the address of a load, store or memcpy
abbrev pub IsMisused : Function → Instr → Type 0
IsMisused f i = Any (NamesAddress f) (other_uses i) ⊎ Any (NamesPart f) (memory_uses i)

-- a phi takes an address of a coroutine slot from a block whose end stands before begin
abbrev pub IsTakenEarly : Function → Incoming → Type 0
IsTakenEarly f i = NamesAddress f i.value × IsBeforeBegin f (end_of f i.from)

-- ---- the rule

abbrev pub StandsEarly : Function → Place → Part → Type 0
StandsEarly f p (OfPhi phi) = Any (IsTakenEarly f) phi.incoming
StandsEarly f p (OfInstr i) = IsBeforeBegin f (point_of f p) × IsMisused f i
StandsEarly f p (Ending t) = IsBeforeBegin f (point_of f p) × Any (NamesAddress f) (ending_operands t)
StandsEarly f p _ = ⊥

abbrev pub BreaksEarly : Function → Place × Part → Type 0
BreaksEarly f x = IsTrue f.coroutine × StandsEarly f x.0 x.1

-- K9: a coroutine slot's address used before begin otherwise than directly as the address of load, store or memcpy, in a marker or in id
abbrev pub IsFirstEarly : ℕ → Function → Option Place → Type 0
IsFirstEarly func f o = IsFirst (BreaksEarly f) (λ x. x.0) (parts_of func f) o

-- ---- the same, by sets

-- whether the end of the block of a label is marked: by the label, or, where no block has it, the other mark
abbrev pub end_mark : List Bool → Bool → ℕ → Bool
end_mark ends other label = unwrap_or (slice_get ends label) other

-- the marks are those of the ends that stand before begin
pub record AreEarlyEnds (f : Function) (ends : List Bool) (other : Bool) : Type 0 where
  pub each : (label : ℕ) → IsTrue (end_mark ends other label) ↔ IsBeforeBegin f (end_of f label)

-- so many labels have their marks
pub record HaveEnds (f : Function) (before : List (List Bool)) (count : ℕ) (ends : List Bool) : Type 0 where
  pub is_long : length ends ≡ count
  pub each : (label : ℕ) → label < count → slice_get ends label ≡ Some (is_marked before (end_of f label))

abbrev pub LabelsBelow : List Block → ℕ → Type 0
LabelsBelow [] count = Unit
LabelsBelow (b ∷ blocks) count = (b.label < count) × LabelsBelow blocks count

abbrev pub is_clear : List Bool → Operand → Bool
is_clear addresses x = not (names_one addresses x)

abbrev pub is_direct : List Bool → List Bool → Operand → Bool
is_direct addresses slots x = not (names_other addresses slots x)

abbrev pub is_misused : List Bool → List Bool → Instr → Bool
is_misused addresses slots i = not (list_all (is_clear addresses) (other_uses i)) || not (list_all (is_direct addresses slots) (memory_uses i))

abbrev pub is_taken_early : List Bool → List Bool → Bool → Incoming → Bool
is_taken_early addresses ends other i = names_one addresses i.value && end_mark ends other i.from

abbrev pub stands_early : Function → List Bool → List Bool → List (List Bool) → List Bool → Bool → Place → Part → Bool
stands_early f addresses slots before ends other p (OfPhi phi) = list_any (is_taken_early addresses ends other) phi.incoming
stands_early f addresses slots before ends other p (OfInstr i) = is_marked before (point_of f p) && is_misused addresses slots i
stands_early f addresses slots before ends other p (Ending t) = is_marked before (point_of f p) && not (list_all (is_clear addresses) (ending_operands t))
stands_early f addresses slots before ends other p _ = false
