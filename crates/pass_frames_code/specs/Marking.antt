-- Lifetime markers, as they stand in a function: what is asked of a state whose next step is one.
use Rattle.std.specs.List.{Contains}
use Rattle.std.specs.Prelude.{◌≡◌, ◌≢◌, ◌+◌, ◌<◌, ◌≤◌, ◌^◌, ◌∷◌, [], Bool, None, Option, Some, false, length, slice_get, true, ℕ}
use Rattle.pass_proofs.specs.ir_base.declared.outcome.Outcome.{Outcome}
use Rattle.pass_proofs.specs.ir_model.Ty.{Ty}
use Rattle.pass_proofs.specs.ir_model.declared.instr.Instr.{Instr}
use Rattle.pass_proofs.specs.ir_model.declared.operand.Arg.{Arg}
use Rattle.pass_proofs.specs.ir_model.declared.operand.Callee.{Callee}
use Rattle.pass_proofs.specs.ir_model.declared.operand.Intrinsic.{Intrinsic}
use Rattle.pass_proofs.specs.ir_model.declared.operand.Operand.{Operand}
use Rattle.pass_proofs.specs.pass_addresses.Placing.{stays}
use Rattle.pass_proofs.specs.pass_cells.Kept.{entry}
use Rattle.pass_proofs.specs.pass_copies.declared.slot.EarlySlot.{EarlySlot}
use Rattle.pass_frames_code.specs.Places.{copies, edged, instrs_at, is_return, marked, offsets, plan}
use Rattle.pass_frames_code.specs.Related.{AreBuiltOf, Building, is_coroutine}
use Rattle.pass_frames_code.specs.Slotted.{IsSlotInFrame}
use Rattle.pass_frames_code.specs.Stepping.{IsNotEntering}
use Rattle.pass_proofs.specs.addresses.rules.Addresses.{lies_in_frame}
use Rattle.pass_renewed_proof.specs.Renewed.{RenewedGiven}
use Rattle.pass_proofs.specs.run_laws.memory.Pointers.{home_of}
use Rattle.pass_proofs.specs.run_laws.transfer.Muted.{muted}
use Rattle.pass_proofs.specs.run_memory.Memory.{is_live, same_kind}
use Rattle.pass_proofs.specs.run_memory.declared.block.Kind.{Kind}
use Rattle.pass_proofs.specs.run_memory.declared.block.MemoryBlock.{MemoryBlock}
use Rattle.pass_proofs.specs.run_source.State.{function_of}
use Rattle.pass_proofs.specs.run_source.declared.state.Instance.{Instance}
use Rattle.pass_proofs.specs.run_source.declared.state.State.{State}
use Rattle.pass_proofs.specs.run_step.Step.{AtInstr, fetch}
use Rattle.pass_proofs.specs.run_step.Values.{pointer_to, value_in}
use Rattle.pass_proofs.specs.run_step.declared.world.Slot.{Slot}

-- ---- the instruction

abbrev pub marker : Bool → Intrinsic
marker true = Intrinsic.LifetimeStart
marker false = Intrinsic.LifetimeEnd

-- a marker of a name, which starts or ends its slot
abbrev pub marking : Bool → Bool → Option Ty → Arg → Ty → ℕ → Instr
marking starts must_tail ty size t slot =
    Instr.Call None must_tail ty (Callee.Intrinsic (marker starts))
    (size ∷ record { ty = t; value = Operand.Local slot } ∷ [])

abbrev pub IsNoLocal : Operand → Type 0
IsNoLocal (Operand.Local v) = ⊥
IsNoLocal _ = Unit {0}

-- ---- in a coroutine

-- The next step is a marker of a slot of a coroutine. Its size is a literal, and an alloca's address is kept in no cell.
pub record IsAtMarker (b : Building) (s : State) (starts must_tail : Bool) (ty : Option Ty) (size : Arg) (t : Ty)
    (slot : ℕ) : Type 0 where
  pub runs : s.outcome ≡ Outcome.Running
  pub coroutine : is_coroutine b s.top.func ≡ true
  pub mode : IsNotEntering s.top.mode
  pub there : slice_get (instrs_at (b.framing s.top.func) s.top.block) s.top.at
      ≡ Some (marking starts must_tail ty size t slot)
  pub unreturned : is_return (b.framing s.top.func) s.top.block ≡ false
  pub literal : IsNoLocal size.value
  pub unkept : entry (plan (b.framing s.top.func)).places slot ≡ None

-- the framed form hasn't the marker: the slot is no ramp slot
abbrev pub IsUnmarked : Building → State → Instr → Type 0
IsUnmarked b s i = stays (marked (b.framing s.top.func)) i ≡ false

-- ---- whose slot it is

-- the name has no address, or that of a slot of the activation before begin that is used there in no access
pub record IsBeforeBegin (b : Building) (s : State) (name : ℕ) : Type 0 where
  pub slot : Slot
  pub own : Contains s.top.slots slot
  pub alloca : slot.alloca ≡ name
  pub address : value_in s.top.values name ≡ pointer_to slot.block
  pub frame : lies_in_frame (offsets (b.framing s.top.func)) name ≡ true
  pub late : (e : EarlySlot) → Contains (copies (b.framing s.top.func)).slots e → e.slot ≢ name

-- or that of a slot of its instance
pub record IsBehindBegin (b : Building) (s : State) (name : ℕ) (starts : Bool) : Type 0 where
  pub slot : Slot
  pub number : ℕ
  pub instance : Instance
  pub address : value_in s.top.values name ≡ pointer_to slot.block
  pub placed : IsSlotInFrame b s number instance slot starts

-- ---- markers that both runs execute

-- The name has no address, or that of a slot of the activation which lies in no frame. No frame begins at its block.
pub record IsWholeMarked (b : Building) (s : State) (name : ℕ) (slot : Slot) : Type 0 where
  pub own : Contains s.top.slots slot
  pub alloca : slot.alloca ≡ name
  pub address : value_in s.top.values name ≡ pointer_to slot.block
  pub frames : (i : ℕ) (x : Instance) → slice_get s.instances i ≡ Some x → x.block ≢ slot.block
  -- its block is one that may be written
  pub writable : (x : MemoryBlock) → slice_get s.world.memory slot.block ≡ Some x
      → same_kind x.kind Kind.Constant ≡ false

-- The next step is a marker of a function that is no coroutine.
pub record IsAtOtherMarker (b : Building) (g : RenewedGiven) (s : State) (starts must_tail : Bool) (ty : Option Ty)
    (size : Arg) (t : Ty) (slot : ℕ) : Type 0 where
  pub runs : s.outcome ≡ Outcome.Running
  pub plain : is_coroutine b s.top.func ≡ false
  pub mode : IsNotEntering s.top.mode
  pub there : fetch (function_of g.given s) s.top.block s.top.at ≡ AtInstr (marking starts must_tail ty size t slot)
  pub off : g.flags s.top.func slot ≡ false

-- A ramp slot's marker stays in the framed form. It stands behind the slot's alloca (F2).
pub record IsKeptMarker (b : Building) (s : State) (i : Instr) (name : ℕ) : Type 0 where
  pub kept : stays (marked (b.framing s.top.func)) i ≡ true
  pub outside : lies_in_frame (offsets (b.framing s.top.func)) name ≡ false
  pub low : name < length (edged (b.framing s.top.func)).names
  pub made : (at u align : ℕ) (ty : Ty) → slice_get (instrs_at (b.framing s.top.func) 0) at ≡ Some (Instr.Alloca u ty align)
      → s.top.block ≡ 0 → s.top.at ≤ at → u ≢ name

-- ---- a marker of a slot that is used before begin, executed there

-- The temporary's block is a live slot, as large as that of the slot and of its alignment, in which no frame begins. No
-- other live block of the source stands there: temporaries are allocas of the framed activation's own.
pub record IsTemporaryThere (b : Building) (s t : State) (r : AreBuiltOf b s t) (n q : ℕ) : Type 0 where
  pub block : MemoryBlock
  pub there : slice_get t.world.memory q ≡ Some block
  pub live : is_live block.life ≡ true
  pub whole : length block.bytes ≡ block.size
  pub small : block.size < 2 ^ 64
  pub writable : same_kind block.kind Kind.Constant ≡ false
  pub sized : (y : MemoryBlock) → slice_get s.world.memory n ≡ Some y
      → (0 + y.size ≤ block.size) × (block.align ≡ y.align)
  pub frames : (j : ℕ) (y : Instance) → slice_get t.instances j ≡ Some y → y.block ≢ q
  pub lonely : (c : ℕ) (y : MemoryBlock) → c ≢ n → slice_get (muted r.hides s.world.memory) c ≡ Some y
      → is_live y.life ≡ true → (home_of r.homes c).block ≢ q

-- The name has the address of such a slot of the activation. Its alloca is behind, names of allocas are of the
-- coroutine's table, and no two slots have one temporary.
pub record IsEarlyMarked (b : Building) (s t : State) (r : AreBuiltOf b s t) (name : ℕ) : Type 0 where
  pub slot : Slot
  pub own : Contains s.top.slots slot
  pub alloca : slot.alloca ≡ name
  pub address : value_in s.top.values name ≡ pointer_to slot.block
  pub low : slot.block < length s.world.memory
  pub frame : lies_in_frame (offsets (b.framing s.top.func)) name ≡ true
  pub early : EarlySlot
  pub listed : Contains (copies (b.framing s.top.func)).slots early
  pub slot_is : early.slot ≡ name
  pub alone : (e f : EarlySlot) → Contains (copies (b.framing s.top.func)).slots e
      → Contains (copies (b.framing s.top.func)).slots f → e.temporary ≡ f.temporary → e.slot ≡ f.slot
  pub names : (at u align : ℕ) (ty : Ty) → slice_get (instrs_at (b.framing s.top.func) 0) at ≡ Some (Instr.Alloca u ty align)
      → u < length (edged (b.framing s.top.func)).names
  pub made : (at u align : ℕ) (ty : Ty) → slice_get (instrs_at (b.framing s.top.func) 0) at ≡ Some (Instr.Alloca u ty align)
      → s.top.block ≡ 0 → s.top.at ≤ at → u ≢ name
  pub there : (q : ℕ) (e : EarlySlot) → Contains (copies (b.framing s.top.func)).slots e → e.slot ≡ name
      → Contains t.top.slots (record { alloca = e.temporary; block = q }) → IsTemporaryThere b s t r slot.block q
