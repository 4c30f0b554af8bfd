-- What the two runs are given, and what is asked of a state whose next step is an ordinary instruction.
use Rattle.std.specs.Prelude.{◌≡◌, ◌<◌, ◌≤◌, ◌⊎◌, ◌+◌, ◌^◌, ℕ, Bool, true, false, List, [], length, slice_get, Some, None, Option}
use Rattle.std.specs.List.{Contains}
use Rattle.pass_proofs.specs.flow_solver.Paths.{IsListed}
use Rattle.pass_proofs.specs.ir_base.declared.name.Name.{Name}
use Rattle.pass_proofs.specs.ir_base.declared.outcome.Outcome.{Outcome}
use Rattle.pass_proofs.specs.ir_model.Names.{declaration_named, function_at, function_named}
use Rattle.pass_proofs.specs.ir_model.Ty.{Ty}
use Rattle.pass_proofs.specs.ir_model.declared.instr.Instr.{Instr}
use Rattle.pass_proofs.specs.ir_model.declared.instr.Terminator.{Terminator}
use Rattle.pass_proofs.specs.ir_model.declared.module.Module.{Module}
use Rattle.pass_proofs.specs.ir_model.declared.operand.Callee.{Callee}
use Rattle.pass_proofs.specs.ir_model.declared.operand.Operand.{Operand}
use Rattle.pass_proofs.specs.ir_parts.Contents.{instr_operands, result_of}
use Rattle.pass_proofs.specs.ir_paths.declared.point.Point.{Point}
use Rattle.pass_proofs.specs.pass_cells.Cells.{fetches_of}
use Rattle.pass_proofs.specs.pass_cells.Kept.{entry}
use Rattle.pass_proofs.specs.pass_cells.declared.plan.KeptValue.{KeptValue}
use Rattle.pass_proofs.specs.frame_contents.Held.{position_of}
use Rattle.pass_proofs.specs.pass_copies.declared.slot.EarlySlot.{EarlySlot}
use Rattle.pass_proofs.specs.pass_fetch.Fetching.{next_after_all, value_bytes}
use Rattle.pass_proofs.specs.pass_fetch.Instrs.{with_fetched}
use Rattle.pass_proofs.specs.pass_frames.Framed.{begin_of}
use Rattle.pass_proofs.specs.pass_frames.Tables.{offset_at}
use Rattle.pass_frames_code.specs.Code.{address_state, load_name, loaded, located, slot_table, wheres}
use Rattle.pass_frames_code.specs.Distances.{AreFields, IsBelow}
use Rattle.pass_frames_code.specs.Framings.{IsFraming}
use Rattle.pass_frames_code.specs.Layers.{state_at}
use Rattle.pass_frames_code.specs.Led.{led_line, twice_front}
use Rattle.pass_frames_code.specs.Lined.{GivesNone}
use Rattle.pass_frames_code.specs.Lines.{IsStorable}
use Rattle.pass_frames_code.specs.Ordinary.{IsPlainName}
use Rattle.pass_frames_code.specs.Places.{Framing, Placed, copies, edged, framed, instrs_at, is_return, named, offsets, place, placed_layer, plan, written}
use Rattle.pass_frames_code.specs.Related.{AreBuilt, AreBuiltOf, AreInstances, Building, IsKeptValue, IsSuspendNumber, is_coroutine, returned_from}
use Rattle.pass_proofs.specs.addresses.rules.Addresses.{lies_in_frame}
use Rattle.pass_renewed_proof.specs.Renewed.{RenewedGiven}
use Rattle.pass_proofs.specs.run_framed.Framed.{framed_context}
use Rattle.pass_proofs.specs.run_laws.access.Lines.{StandAt}
use Rattle.pass_proofs.specs.run_laws.access.Changed.{IsFree}
use Rattle.pass_proofs.specs.run_laws.changed.Changed.{Each}
use Rattle.pass_proofs.specs.run_laws.embedded.Related.{HasBytes}
use Rattle.pass_proofs.specs.run_laws.memory.Pointers.{Home, IsValue}
use Rattle.pass_proofs.specs.run_laws.transfer.Muted.{muted}
use Rattle.pass_proofs.specs.run_laws.transfer.Shapes.{InstrStays}
use Rattle.pass_proofs.specs.run_laws.transfer.Transfer.{AreSameDistances, IsPointedAlike, StandsFor, looks_at, same_maps}
use Rattle.pass_proofs.specs.run_memory.Memory.{owner_rights}
use Rattle.pass_proofs.specs.run_memory.declared.pointer.Value.{Value}
use Rattle.pass_proofs.specs.run_source.Source.{context_of}
use Rattle.pass_proofs.specs.run_source.State.{address_in, function_of, work_of}
use Rattle.pass_proofs.specs.run_source.declared.state.Activation.{Activation}
use Rattle.pass_proofs.specs.run_source.declared.state.Instance.{Instance}
use Rattle.pass_proofs.specs.run_source.declared.state.Mode.{Mode}
use Rattle.pass_proofs.specs.run_source.declared.state.State.{State}
use Rattle.pass_proofs.specs.run_source.declared.state.Status.{Status}
use Rattle.pass_proofs.specs.run_source_tables.Given.{facts_at}
use Rattle.pass_proofs.specs.run_step.Step.{AtInstr, AtTerm, Context, Done, Enter, GoTo, Work, fetch, instr_action, term_action}
use Rattle.pass_proofs.specs.run_step.Values.{Env, pointer_to, value_in}
use Rattle.pass_proofs.specs.run_step.declared.world.Slot.{Slot}

-- ---- what the runs are given: the framed module is the other one but for the coroutines' blocks and names

pub record AreGiven (b : Building) (g : RenewedGiven) : Type 0 where
  pub code : b.given.given.code ≡ b.framed_code
  pub answers : b.given.given.answers ≡ g.given.answers
  pub built : AreBuilt b
  pub framings : (func : ℕ) → is_coroutine b func ≡ true → IsFraming (b.framing func)
  pub coroutines : (func : ℕ) → is_coroutine b func ≡ true → function_at g.given.code func ≡ edged (b.framing func)
  pub others : (func : ℕ) → is_coroutine b func ≡ false → function_at g.given.code func ≡ function_at b.code func
  pub functions : (n : Name) → function_named b.framed_code n ≡ function_named g.given.code n
  pub declarations : (n : Name) → declaration_named b.framed_code n ≡ declaration_named g.given.code n
  pub globals : b.framed_code.globals ≡ g.given.code.globals
  pub count : length b.framed_code.functions ≡ length g.given.code.functions

-- ---- code

-- the state of the passes in which an instruction is met
abbrev pub state_in : Framing → ℕ → ℕ → Placed
state_in x k at = state_at (placed_layer x k) (instrs_at x k) at

-- at the place of a point stands a line, and behind it is the place of the next one
abbrev pub StandsInPlace : Framing → (k at : ℕ) → List Instr → Type 0
StandsInPlace x k at line =
    StandAt (framed x) k (place x (record { block = k; at = at })).at line
    × ((place x (record { block = k; at = at + 1 })).at ≡ (place x (record { block = k; at = at })).at + length line)

-- what an instruction is once its kept operands are loaded, and then addresses are made
abbrev pub placed_instr : Framing → Placed → Instr → Instr
placed_instr x n i = with_fetched (slot_table x) (address_state n).0 (with_fetched (fetches_of (plan x))
    (load_name n) i)

abbrev pub placed_front : Framing → Placed → Instr → List Instr
placed_front x n i = twice_front (fetches_of (plan x)) (slot_table x) (load_name n) (address_state n).0 i

abbrev pub placed_line : Framing → Placed → Instr → List Instr
placed_line x n i = led_line x (placed_front x n i) i (placed_instr x n i)

-- no access of it goes by the address of a slot that is used before begin
pub record IsUnlocated (x : Framing) (n : Placed) (i : Instr) : Type 0 where
  pub wheres : wheres x n i ≡ []
  pub located : located x n i ≡ loaded x n i

-- new names come in the order of the passes: loads, what is written, temporaries and their cells, and addresses
pub record AreNamesInOrder (x : Framing) (n : Placed) (i : Instr) : Type 0 where
  pub low : length (named x).names ≤ load_name n
  pub loads : next_after_all (fetches_of (plan x)) (load_name n) (instr_operands i) ≤ length (written x).names
  pub addresses : length (written x).names ≤ (address_state n).0
  pub slots : (s : EarlySlot) → Contains (copies x).slots s
      → ((length (written x).names ≤ s.temporary) × (length (written x).names ≤ s.cell))
      × ((s.temporary < (address_state n).0) × (s.cell < (address_state n).0))
  pub room : next_after_all (slot_table x) (address_state n).0
      (instr_operands (with_fetched (fetches_of (plan x)) (load_name n) i)) ≤ length (framed x).names

-- ---- states

-- no alloca, and no call but of a function by its name
abbrev pub IsPlainCall : Callee → Type 0
IsPlainCall (Callee.Named n) = Unit {0}
IsPlainCall (Callee.Allocator a) = ⊥
IsPlainCall (Callee.Intrinsic i) = ⊥
IsPlainCall (Callee.Local v) = ⊥

abbrev pub IsCommon : Instr → Type 0
IsCommon (Instr.Alloca r ty align) = ⊥
IsCommon (Instr.Call r must_tail ty callee args) = IsPlainCall callee
IsCommon i = Unit {0}

abbrev pub IsNotEntering : Mode → Type 0
IsNotEntering (Mode.Entering from label) = ⊥
IsNotEntering _ = Unit {0}

-- a slot in the frame is one of the activation's instance, whose block the name leads to, if it has a value
pub record IsSlotOf (x : Framing) (s : State) (v d : ℕ) : Type 0 where
  pub number : ℕ
  pub instance : Instance
  pub own : s.top.instance ≡ Some number
  pub there : slice_get s.instances number ≡ Some instance
  pub coroutine : instance.coroutine ≡ s.top.func
  pub begun : value_in s.top.values (begin_of x.function) ≡ address_in instance.block instance.start
  pub near : instance.start + d < 2 ^ 64
  pub leads : (value_in s.top.values v ≡ Value.Poison)
      ⊎ ((slot : Slot) × Contains instance.slots slot × (slot.alloca ≡ v)
      × (value_in s.top.values v ≡ pointer_to slot.block))

abbrev pub IsPlacedOperand : Framing → State → Operand → Type 0
IsPlacedOperand x s (Operand.Local v) = (d : ℕ) → entry (offsets x) v ≡ Some d → IsSlotOf x s v d
IsPlacedOperand x s a = Unit {0}

-- begin's name is one of the coroutine's, kept in no cell, and lies in no frame
pub record IsBeginPlain (x : Framing) : Type 0 where
  pub low : begin_of x.function < length (edged x).names
  pub unkept : entry (plan x).places (begin_of x.function) ≡ None
  pub outside : lies_in_frame (offsets x) (begin_of x.function) ≡ false

-- the offset of a slot is that of its place among what is held
pub record AreOffsetsPlaced (x : Framing) : Type 0 where
  pub each : (v d position : ℕ) → entry (offsets x) v ≡ Some d → position_of x.contents.held v ≡ Some position
      → d ≡ offset_at x.layout position

-- indices of a getelementptr into structures are literals of fields
abbrev pub HasFieldIndices : Module → Instr → Type 0
HasFieldIndices m (Instr.Gep r inbounds ty base indices) = AreFields m ty indices
HasFieldIndices m i = Unit {0}

-- where operands stand for the source's, a getelementptr goes as far
abbrev pub GoesAsFar : Building → Context → Env → Instr → Type 0
GoesAsFar b c env i =
    (homes : List Home) (d : Context) (other : Env) (j : Instr) → d.code ≡ b.framed_code
    → InstrStays (StandsFor (looks_at (AtInstr i)) (IsValue homes) c d env other) i j
    → AreSameDistances c d env other (AtInstr i) (AtInstr j)

-- The next step is an ordinary instruction of a coroutine. Names are of its table, their values fit their types,
-- and its
-- result has a name of its own; slots are used behind begin.
pub record IsAtOrdinary (b : Building) (g : RenewedGiven) (s : State) (i : Instr) (v : Work) : Type 0 where
  pub runs : s.outcome ≡ Outcome.Running
  pub coroutine : is_coroutine b s.top.func ≡ true
  pub mode : IsNotEntering s.top.mode
  pub there : slice_get (instrs_at (b.framing s.top.func) s.top.block) s.top.at ≡ Some i
  pub unreturned : is_return (b.framing s.top.func) s.top.block ≡ false
  pub common : IsCommon i
  pub does : instr_action (context_of g.given s) (work_of s) i ≡ Done v
  pub unlocated : IsUnlocated (b.framing s.top.func) (state_in (b.framing s.top.func) s.top.block s.top.at) i
  pub unmeasured : (r : ℕ) → result_of i ≡ Some r → IsPlainName (b.framing s.top.func) r
  pub order : AreNamesInOrder (b.framing s.top.func) (state_in (b.framing s.top.func) s.top.block s.top.at) i
  pub below : Each (IsBelow (length (edged (b.framing s.top.func)).names)) (instr_operands i)
  pub begin : IsBeginPlain (b.framing s.top.func)
  pub offsets : AreOffsetsPlaced (b.framing s.top.func)
  pub far : GoesAsFar b (context_of g.given s) s.top.values i
  pub bytes : HasBytes (AtInstr i)
  pub gives : GivesNone b.framed_code i
  pub room : length s.top.values ≡ length (edged (b.framing s.top.func)).names
  pub storable : (r : ℕ) (k : KeptValue) → result_of i ≡ Some r → IsKeptValue (b.framing s.top.func) r k
      → IsStorable k.ty (value_in v.values r)
  pub operands : Each (IsPlacedOperand (b.framing s.top.func) s) (instr_operands i)
  pub allocas : (at u align : ℕ) (ty : Ty)
      → slice_get (instrs_at (b.framing s.top.func) 0) at ≡ Some (Instr.Alloca u ty align)
      → (u < length (edged (b.framing s.top.func)).names) × (result_of i ≡ Some u → ⊥)

-- No byte of a live slot lies in the fields of values that cross the suspend at which an instance is: the two
-- conflict. No
-- activation below stands in a block on a resume or destroy edge, in which there is no call.
pub record AreFieldsSpared (b : Building) (s t : State) (r : AreBuiltOf b s t) : Type 0 where
  pub fields : (i : ℕ) (x y : Instance) → slice_get s.instances i ≡ Some x → AreInstances b r.homes t x y
      → x.freed ≡ false → (p : Point) (env : Env) → x.status ≡ Status.Suspended p env → (j : ℕ)
      → IsSuspendNumber (b.framing x.coroutine) j p → (v position : ℕ) (k : KeptValue)
      → IsKeptValue (b.framing x.coroutine) v k → Contains (b.framing x.coroutine).contents.crossing (v, j)
      → position_of (b.framing x.coroutine).contents.held v ≡ Some position → (q : ℕ) → q < value_bytes k.field_ty
      → IsFree owner_rights r.homes (muted r.hides s.world.memory) y.block
      (y.start + offset_at (b.framing x.coroutine).layout position + q)
  pub below : (a : Activation) → IsListed a s.below → is_coroutine b a.func ≡ true
      → returned_from (b.framing a.func) a a.mode ≡ None

-- ---- functions that are no coroutines

-- no coro intrinsic stands in them, so they have no windows
pub record HasNoWindows (b : Building) (g : RenewedGiven) (func : ℕ) : Type 0 where
  pub source : (facts_at g.given.facts func).windows ≡ []
  pub target : (facts_at b.given.given.facts func).windows ≡ []

-- The next step is an ordinary instruction of a function that is no coroutine.
pub record IsAtOther (b : Building) (g : RenewedGiven) (s : State) (i : Instr) (v : Work) : Type 0 where
  pub runs : s.outcome ≡ Outcome.Running
  pub plain : is_coroutine b s.top.func ≡ false
  pub mode : IsNotEntering s.top.mode
  pub there : fetch (function_of g.given s) s.top.block s.top.at ≡ AtInstr i
  pub common : IsCommon i
  pub does : instr_action (context_of g.given s) (work_of s) i ≡ Done v
  pub far : GoesAsFar b (context_of g.given s) s.top.values i
  pub bytes : HasBytes (AtInstr i)
  pub gives : GivesNone b.framed_code i

-- The next step is a branch of such a function, which leads to a label.
pub record IsAtOtherBranch (b : Building) (g : RenewedGiven) (s : State) (e : Terminator) (label : ℕ) : Type 0 where
  pub runs : s.outcome ≡ Outcome.Running
  pub plain : is_coroutine b s.top.func ≡ false
  pub mode : IsNotEntering s.top.mode
  pub there : fetch (function_of g.given s) s.top.block s.top.at ≡ AtTerm e
  pub does : term_action (context_of g.given s) (work_of s) e ≡ GoTo label
  pub windows : HasNoWindows b g s.top.func

abbrev pub IsFunctionCall : Instr → Type 0
IsFunctionCall (Instr.Call r must_tail ty (Callee.Named n) args) = Unit {0}
IsFunctionCall (Instr.Call r must_tail ty (Callee.Local v) args) = Unit {0}
IsFunctionCall _ = ⊥

-- The next step is a call in such a function, of another one.
pub record IsAtOtherCall (b : Building) (g : RenewedGiven) (s : State) (i : Instr) (func : ℕ) (args : List Value)
    (result : Option ℕ) (must_tail : Bool) : Type 0 where
  pub runs : s.outcome ≡ Outcome.Running
  pub plain : is_coroutine b s.top.func ≡ false
  pub mode : IsNotEntering s.top.mode
  pub there : fetch (function_of g.given s) s.top.block s.top.at ≡ AtInstr i
  pub does : instr_action (context_of g.given s) (work_of s) i ≡ Enter func args result must_tail
  pub call : IsFunctionCall i
  pub callee : is_coroutine b func ≡ false
  -- what is called through a pointer fits the call in both
  pub pointed : (t : State)
      → IsPointedAlike same_maps (context_of g.given s) (framed_context b.given t) s.top.values (AtInstr i)
  pub gives : GivesNone b.framed_code i
