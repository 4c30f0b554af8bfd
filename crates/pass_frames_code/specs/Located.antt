-- Accesses before begin of slots that are used there, which go by the addresses in their cells.
use Rattle.std.specs.List.{Contains}
use Rattle.std.specs.Prelude.{◌≡◌, ◌<◌, ◌≤◌, ◌⊎◌, ◌++◌, ℕ, Bool, List, length, slice_get, Some, None, Option, false}
use Rattle.std.specs.Prelude.{true}
use Rattle.pass_proofs.specs.ir_base.declared.outcome.Outcome.{Outcome}
use Rattle.pass_proofs.specs.ir_model.Ty.{Ty}
use Rattle.pass_proofs.specs.ir_model.declared.instr.Instr.{Instr}
use Rattle.pass_proofs.specs.ir_model.declared.operand.Operand.{Operand}
use Rattle.pass_proofs.specs.ir_parts.Contents.{instr_operands, result_of}
use Rattle.pass_proofs.specs.pass_cells.Cells.{fetches_of}
use Rattle.pass_proofs.specs.pass_cells.Kept.{entry}
use Rattle.pass_proofs.specs.pass_cells.declared.plan.KeptValue.{KeptValue}
use Rattle.pass_proofs.specs.pass_copies.Uses.{is_access}
use Rattle.pass_proofs.specs.pass_copies.declared.slot.EarlySlot.{EarlySlot}
use Rattle.pass_proofs.specs.pass_fetch.Fetching.{fetch_of, fetches_of_all, next_after_all}
use Rattle.pass_proofs.specs.pass_fetch.Instrs.{with_fetched}
use Rattle.pass_proofs.specs.pass_fetch.declared.fetch.Fetch.{Fetch}
use Rattle.pass_frames_code.specs.Code.{address_state, is_ahead, load_name, loaded, slot_table, where_name}
use Rattle.pass_frames_code.specs.Distances.{IsBelow}
use Rattle.pass_frames_code.specs.Led.{led_line}
use Rattle.pass_frames_code.specs.Lines.{IsStorable}
use Rattle.pass_frames_code.specs.Ordinary.{IsPlainName}
use Rattle.pass_frames_code.specs.Places.{Framing, Placed, copies, edged, framed, instrs_at, is_return, named}
use Rattle.pass_frames_code.specs.Places.{offsets, plan, written}
use Rattle.pass_frames_code.specs.Related.{Building, IsKeptValue, is_coroutine}
use Rattle.pass_frames_code.specs.Stepping.{AreOffsetsPlaced, IsBeginPlain, IsNotEntering, IsPlacedOperand, state_in}
use Rattle.pass_renewed_proof.specs.Renewed.{RenewedGiven}
use Rattle.pass_proofs.specs.run_laws.changed.Changed.{Each}
use Rattle.pass_proofs.specs.run_laws.embedded.Related.{HasBytes}
use Rattle.pass_proofs.specs.run_laws.memory.Pointers.{Home, moved_pointer}
use Rattle.pass_proofs.specs.run_laws.transfer.Muted.{IsShown}
use Rattle.pass_proofs.specs.run_memory.declared.pointer.Value.{Value}
use Rattle.pass_proofs.specs.run_source.Source.{context_of}
use Rattle.pass_proofs.specs.run_source.State.{work_of}
use Rattle.pass_proofs.specs.run_source.declared.state.Mode.{Mode}
use Rattle.pass_proofs.specs.run_source.declared.state.State.{State}
use Rattle.pass_proofs.specs.run_step.Step.{AtInstr, Done, Work, instr_action}
use Rattle.pass_proofs.specs.run_step.Values.{pointer_to, value_in}
use Rattle.pass_proofs.specs.run_step.declared.world.Slot.{Slot}

-- ---- addresses

-- A value is moved to where its block stands, also if no pointer into that block may be about.
abbrev pub IsMoved : List Home → Value → Value → Type 0
IsMoved homes Value.Poison w = Unit {0}
IsMoved homes (Value.Int x) w = w ≡ Value.Int x
IsMoved homes (Value.Ptr p) w = w ≡ Value.Ptr (moved_pointer homes p)

-- So an instruction may go by it, where it leads into no hidden block.
pub record IsAddress (homes : List Home) (hides : ℕ → Bool) (v w : Value) : Type 0 where
  pub moved : IsMoved homes v w
  pub shown : IsShown hides v

-- ---- code: kept operands are loaded, then addresses from their cells, and then addresses are made

abbrev pub where_table : Framing → List (Option Fetch)
where_table x = (copies x).fetches

-- the access with the addresses that were loaded from their cells
abbrev pub addressed_instr : Framing → Placed → Instr → Instr
addressed_instr x n i = with_fetched (where_table x) (where_name n) (loaded x n i)

abbrev pub located_instr : Framing → Placed → Instr → Instr
located_instr x n i = with_fetched (slot_table x) (address_state n).0 (addressed_instr x n i)

abbrev pub located_front : Framing → Placed → Instr → List Instr
located_front x n i =
    fetches_of_all (fetches_of (plan x)) (load_name n) (instr_operands i)
    ++ (fetches_of_all (where_table x) (where_name n) (instr_operands (loaded x n i))
    ++ fetches_of_all (slot_table x) (address_state n).0 (instr_operands (addressed_instr x n i)))

abbrev pub located_line : Framing → Placed → Instr → List Instr
located_line x n i = led_line x (located_front x n i) i (located_instr x n i)

-- New names come in the order of the passes: loads, temporaries and their cells, loads of addresses, and addresses.
pub record AreWheresInOrder (x : Framing) (n : Placed) (i : Instr) : Type 0 where
  pub low : length (named x).names ≤ load_name n
  pub loads : next_after_all (fetches_of (plan x)) (load_name n) (instr_operands i) ≤ length (written x).names
  pub slots : (s : EarlySlot) → Contains (copies x).slots s
      → ((length (written x).names ≤ s.temporary) × (length (written x).names ≤ s.cell))
      × ((s.temporary < where_name n) × (s.cell < where_name n))
  pub wheres : length (written x).names ≤ where_name n
  pub addresses : next_after_all (where_table x) (where_name n) (instr_operands (loaded x n i)) ≤ (address_state n).0
  pub room : next_after_all (slot_table x) (address_state n).0 (instr_operands (addressed_instr x n i))
      ≤ length (framed x).names

-- ---- states

-- The name of a slot that is used before begin has no value, or leads to the activation's own slot before begin, and to
-- the instance's behind it.
pub record IsEarlyOperand (x : Framing) (s : State) (v : ℕ) : Type 0 where
  -- it lies in the frame
  pub offset : ℕ
  pub lies : entry (offsets x) v ≡ Some offset
  pub before : s.top.instance ≡ None → (value_in s.top.values v ≡ Value.Poison)
      ⊎ ((slot : Slot) × Contains s.top.slots slot × (slot.alloca ≡ v)
      × (value_in s.top.values v ≡ pointer_to slot.block))
  pub behind : (number : ℕ) → s.top.instance ≡ Some number → IsPlacedOperand x s (Operand.Local v)

-- An operand is such a slot, or it isn't fetched from the cell of an address.
pub data IsLocatedOperand (x : Framing) (s : State) : Operand → Type 0 where
  Early : (v : ℕ) (f : Fetch) → fetch_of (where_table x) (Operand.Local v) ≡ Some f → IsEarlyOperand x s v
      → IsLocatedOperand x s (Operand.Local v)
  Other : (o : Operand) → fetch_of (where_table x) o ≡ None → IsPlacedOperand x s o → IsLocatedOperand x s o

-- what a store stores is no slot that is used before begin (rule K9)
abbrev pub StoresNone : Framing → Instr → Type 0
StoresNone x (Instr.Store arg p align) = fetch_of (where_table x) arg.value ≡ None
StoresNone x i = Unit {0}

-- a memcpy gives no value
abbrev pub GivesPlainly : Instr → Type 0
GivesPlainly (Instr.Call (Some r) must_tail ty callee args) = ⊥
GivesPlainly i = Unit {0}

-- The next step is an access of a coroutine at a place to which a path leads without begin. An activation without an
-- instance is a ramp's. Names are of the coroutine's table, and slots have the bytes of their types.
pub record IsAtAccess (b : Building) (g : RenewedGiven) (s : State) (i : Instr) (v : Work) : Type 0 where
  pub runs : s.outcome ≡ Outcome.Running
  pub coroutine : is_coroutine b s.top.func ≡ true
  pub mode : IsNotEntering s.top.mode
  pub ramp : s.top.instance ≡ None → s.top.mode ≡ Mode.Ramp
  pub there : slice_get (instrs_at (b.framing s.top.func) s.top.block) s.top.at ≡ Some i
  pub unreturned : is_return (b.framing s.top.func) s.top.block ≡ false
  pub access : is_access i ≡ true
  pub ahead : is_ahead (state_in (b.framing s.top.func) s.top.block s.top.at) ≡ true
  pub does : instr_action (context_of g.given s) (work_of s) i ≡ Done v
  pub bytes : HasBytes (AtInstr i)
  pub plain : GivesPlainly i
  pub unmeasured : (r : ℕ) → result_of i ≡ Some r → IsPlainName (b.framing s.top.func) r
  pub order : AreWheresInOrder (b.framing s.top.func)
      (state_in (b.framing s.top.func) s.top.block s.top.at) i
  pub below : Each (IsBelow (length (edged (b.framing s.top.func)).names)) (instr_operands i)
  pub begin : IsBeginPlain (b.framing s.top.func)
  pub offsets : AreOffsetsPlaced (b.framing s.top.func)
  pub room : length s.top.values ≡ length (edged (b.framing s.top.func)).names
  pub storable : (r : ℕ) (k : KeptValue) → result_of i ≡ Some r → IsKeptValue (b.framing s.top.func) r k
      → IsStorable k.ty (value_in v.values r)
  pub operands : Each (IsLocatedOperand (b.framing s.top.func) s) (instr_operands i)
  pub stored : StoresNone (b.framing s.top.func) i
  -- of two slots that are used before begin each has a name of its own (rule N1)
  pub once : (e z : EarlySlot) → Contains (copies (b.framing s.top.func)).slots e
      → Contains (copies (b.framing s.top.func)).slots z → e.slot ≡ z.slot → e ≡ z
  pub allocas : (at u align : ℕ) (ty : Ty)
      → slice_get (instrs_at (b.framing s.top.func) 0) at ≡ Some (Instr.Alloca u ty align)
      → (u < length (edged (b.framing s.top.func)).names) × (result_of i ≡ Some u → ⊥)
