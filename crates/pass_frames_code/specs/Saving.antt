-- What is asked of a state whose next step is a save, and what the save becomes.
use Rattle.std.specs.List.{Contains}
use Rattle.std.specs.Prelude.{◌≡◌, ◌+◌, ◌<◌, ◌≤◌, ◌^◌, [], Bool, List, None, Option, Some, false, length, slice_get, true, ℕ}
use Rattle.pass_proofs.specs.flow_solver.Paths.{IsListed}
use Rattle.pass_proofs.specs.ir_base.declared.outcome.Outcome.{Outcome}
use Rattle.pass_proofs.specs.ir_model.Ty.{Ty}
use Rattle.pass_proofs.specs.ir_model.declared.instr.Instr.{Instr}
use Rattle.pass_proofs.specs.ir_model.declared.operand.Arg.{Arg}
use Rattle.pass_proofs.specs.ir_model.declared.operand.Callee.{Callee}
use Rattle.pass_proofs.specs.ir_model.declared.operand.Intrinsic.{Intrinsic}
use Rattle.pass_proofs.specs.ir_parts.Contents.{instr_operands, result_of}
use Rattle.pass_proofs.specs.ir_paths.Windows.{suspend_of}
use Rattle.pass_proofs.specs.ir_paths.declared.point.Point.{Point}
use Rattle.pass_proofs.specs.pass_addresses.Placing.{lies_outside, stays, without_promise_of}
use Rattle.pass_proofs.specs.pass_cells.Cells.{fetches_of}
use Rattle.pass_proofs.specs.pass_cells.Moves.{saved_values}
use Rattle.pass_proofs.specs.pass_cells.Written.{distance_behind, row_at, save_row, stored_result}
use Rattle.pass_proofs.specs.pass_cells.declared.plan.KeptValue.{KeptValue}
use Rattle.pass_proofs.specs.pass_copies.Uses.{is_access, is_begin}
use Rattle.pass_proofs.specs.pass_copies.declared.slot.EarlySlot.{EarlySlot}
use Rattle.pass_proofs.specs.pass_fetch.Fetching.{value_bytes}
use Rattle.pass_proofs.specs.pass_frames.Framed.{begin_of}
use Rattle.pass_frames_code.specs.Code.{address_state, addressed, slot_table, write_name}
use Rattle.pass_frames_code.specs.Places.{Framing, Placed, copies, edged, framed, instrs_at, is_return, marked, named, offsets, own_place, plan}
use Rattle.pass_frames_code.specs.Related.{AreBuiltOf, Building, IsKeptValue, IsSuspendNumber, is_coroutine, point_of, returned_from}
use Rattle.pass_frames_code.specs.Saves.{AreStorable, HasRoomFor}
use Rattle.pass_frames_code.specs.Stepping.{IsBeginPlain, IsNotEntering, state_in}
use Rattle.pass_proofs.specs.pass_intrinsics.Shapes.{suspends_of}
use Rattle.pass_proofs.specs.fetch.rules.Fetches.{AreUnfetched}
use Rattle.pass_proofs.specs.run_framed.Framed.{frame_rights}
use Rattle.pass_proofs.specs.run_laws.access.Changed.{IsFree}
use Rattle.pass_proofs.specs.run_laws.transfer.Muted.{muted}
use Rattle.pass_proofs.specs.run_memory.Memory.{owner_rights}
use Rattle.pass_proofs.specs.run_source.State.{address_in}
use Rattle.pass_proofs.specs.run_source.declared.state.Activation.{Activation}
use Rattle.pass_proofs.specs.run_source.declared.state.Instance.{Instance}
use Rattle.pass_proofs.specs.run_source.declared.state.State.{State}
use Rattle.pass_proofs.specs.run_source.declared.state.Status.{Status}
use Rattle.pass_proofs.specs.run_step.Values.{value_in}

-- ---- code

-- a call of a coro intrinsic that the passes leave as it is: none of its operands is fetched, and its result is kept
-- nowhere
pub record IsBare (x : Framing) (i : Instr) : Type 0 where
  pub unloaded : AreUnfetched (fetches_of (plan x)) (instr_operands i)
  pub unaddressed : AreUnfetched (slot_table x) (instr_operands i)
  pub accesses : is_access i ≡ false
  pub begins : is_begin i ≡ false
  pub unmarked : stays (marked x) i ≡ true
  pub same : without_promise_of i ≡ i
  pub outside : lies_outside (offsets x) i ≡ true
  pub unkept : stored_result (plan x) (result_of i) ≡ []
  pub unmeasured : (n : ℕ) → distance_behind x.code (plan x) n i ≡ []

-- what stands in front of it: at a save the values that cross go to their fields
abbrev pub saved_line : Framing → ℕ → Placed → Instr → List Instr
saved_line x k n i =
    addressed x k ((address_state n).0, tt) (saved_values (plan x).kept (write_name n) (save_row (plan x) i))

abbrev pub save_call : ℕ → Bool → Option Ty → List Arg → Instr
save_call token must_tail ty args = Instr.Call (Some token) must_tail ty (Callee.Intrinsic Intrinsic.CoroSave) args

-- new names come in the order of the passes: those of values on their way, temporaries and their cells, addresses
pub record AreSavesInOrder (x : Framing) (n : Placed) (row : List ℕ) : Type 0 where
  pub low : length (named x).names ≤ write_name n
  pub addresses : write_name n + length row ≤ (address_state n).0
  pub slots : (s : EarlySlot) → Contains (copies x).slots s
      → ((write_name n + length row ≤ s.temporary) × (write_name n + length row ≤ s.cell))
      × ((s.temporary < (address_state n).0) × (s.cell < (address_state n).0))
  pub room : (address_state n).0 + length row ≤ length (framed x).names

-- ---- states

-- The instance of the activation on top: it runs, and of those that aren't freed it alone lies in its block. Begin's
-- name has its address. So it is between two suspends.
pub record IsRunningInstance (b : Building) (s : State) : Type 0 where
  pub number : ℕ
  pub instance : Instance
  pub own : s.top.instance ≡ Some number
  pub there : slice_get s.instances number ≡ Some instance
  pub coroutine : instance.coroutine ≡ s.top.func
  pub running : instance.status ≡ Status.Running
  pub unfreed : instance.freed ≡ false
  pub small : instance.start < 2 ^ 64
  pub begun : value_in s.top.values (begin_of (b.framing s.top.func).function)
      ≡ address_in instance.block instance.start
  pub alone : (j : ℕ) (p : Instance) → slice_get s.instances j ≡ Some p → (j ≡ number → ⊥) → p.freed ≡ false
      → p.block ≡ instance.block → ⊥

-- no activation below stands in a block on a resume or destroy edge, in which there is no call
abbrev pub HasNoReturnsBelow : Building → State → Type 0
HasNoReturnsBelow b s =
    (a : Activation) → IsListed a s.below → is_coroutine b a.func ≡ true
    → returned_from (b.framing a.func) a a.mode ≡ None

-- the names of the entry's allocas are the coroutine's
abbrev pub HasLowAllocas : Framing → Type 0
HasLowAllocas x =
    (at u align : ℕ) (ty : Ty) → slice_get (instrs_at x 0) at ≡ Some (Instr.Alloca u ty align)
    → u < length (edged x).names

-- The fields of a row may be written: good layouts say where they lie, and that they share no byte. No byte of a live
-- slot lies in them, since it conflicts with what crosses.
pub record HasFieldsFor (b : Building) (s t : State) (r : AreBuiltOf b s t) (row : List ℕ) (y : Instance) : Type 0
  where
    pub room : HasRoomFor (b.framing s.top.func) (frame_rights b.given t.instances) t.world.memory y.block y.start row
    pub free : (v d : ℕ) (k : KeptValue) → (kept : IsKeptValue (b.framing s.top.func) v k) → IsListed kept.number row
        → slice_get (offsets (b.framing s.top.func)) k.field ≡ Some (Some d) → (q : ℕ) → q < value_bytes k.field_ty
        → IsFree owner_rights r.homes (muted r.hides s.world.memory) y.block (y.start + d + q)

-- The next step is a save. Its pointer is begin's or null (K2), and it has its suspend (K6), whose number gives the
-- row of what crosses.
pub record IsAtSave (b : Building) (s t : State) (r : AreBuiltOf b s t) : Type 0 where
  pub token : ℕ
  pub must_tail : Bool
  pub ty : Option Ty
  pub args : List Arg
  pub runs : s.outcome ≡ Outcome.Running
  pub coroutine : is_coroutine b s.top.func ≡ true
  pub mode : IsNotEntering s.top.mode
  pub there : slice_get (instrs_at (b.framing s.top.func) s.top.block) s.top.at
      ≡ Some (save_call token must_tail ty args)
  pub unreturned : is_return (b.framing s.top.func) s.top.block ≡ false
  pub bare : IsBare (b.framing s.top.func) (save_call token must_tail ty args)
  pub instance : IsRunningInstance b s
  pub below : HasNoReturnsBelow b s
  pub suspend : Point
  pub order : ℕ
  pub leads : suspend_of (edged (b.framing s.top.func)) (point_of s.top) ≡ Some suspend
  pub leads_there : suspend_of (framed (b.framing s.top.func)) (own_place (b.framing s.top.func) (point_of s.top))
      ≡ Some (own_place (b.framing s.top.func) suspend)
  pub numbered : IsSuspendNumber (b.framing s.top.func) order suspend
  pub low : order < length (suspends_of (edged (b.framing s.top.func)))
  pub row : save_row (plan (b.framing s.top.func)) (save_call token must_tail ty args)
      ≡ row_at (plan (b.framing s.top.func)).rows (Some order)
  pub names : AreSavesInOrder (b.framing s.top.func) (state_in (b.framing s.top.func) s.top.block s.top.at)
      (save_row (plan (b.framing s.top.func)) (save_call token must_tail ty args))
  pub begin : IsBeginPlain (b.framing s.top.func)
  pub room : length s.top.values ≡ length (edged (b.framing s.top.func)).names
  pub allocas : HasLowAllocas (b.framing s.top.func)
  pub storable : AreStorable (b.framing s.top.func) s.top.values
  pub fields : (y : Instance) → slice_get t.instances instance.number ≡ Some y
      → HasFieldsFor b s t r (save_row (plan (b.framing s.top.func)) (save_call token must_tail ty args)) y
