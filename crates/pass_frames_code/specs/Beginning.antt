-- What is asked of a state whose next step is begin.
use Rattle.std.specs.List.{Contains}
use Rattle.std.specs.Prelude.{◌≡◌, ◌≢◌, ◌+◌, ◌*◌, ◌<◌, ◌≤◌, ◌∷◌, [], Bool, List, None, Option, Some, false, length, map, not, slice_get, true, ℕ}
use Rattle.pass_proofs.specs.flow_solver.Paths.{IsListed}
use Rattle.pass_proofs.specs.frame_contents.Held.{position_of}
use Rattle.pass_proofs.specs.ir_base.declared.outcome.Outcome.{Outcome}
use Rattle.pass_proofs.specs.ir_laws.paths.woven_rules.Pairs.{AreDifferent}
use Rattle.pass_proofs.specs.ir_model.Ty.{Ty}
use Rattle.pass_proofs.specs.ir_model.declared.instr.Instr.{Instr}
use Rattle.pass_proofs.specs.ir_model.declared.operand.Arg.{Arg}
use Rattle.pass_proofs.specs.ir_model.declared.operand.Callee.{Callee}
use Rattle.pass_proofs.specs.ir_model.declared.operand.Intrinsic.{Intrinsic}
use Rattle.pass_proofs.specs.ir_model.declared.operand.Operand.{Operand}
use Rattle.pass_proofs.specs.pass_cells.Cells.{fetches_of}
use Rattle.pass_proofs.specs.pass_cells.Kept.{entry}
use Rattle.pass_proofs.specs.pass_copies.declared.slot.EarlySlot.{EarlySlot}
use Rattle.pass_proofs.specs.pass_fetch.Fetching.{fetch_of}
use Rattle.pass_proofs.specs.pass_frames.Framed.{begin_of}
use Rattle.pass_proofs.specs.pass_frames.Tables.{offset_at}
use Rattle.pass_frames_code.specs.Code.{address_state, slot_table}
use Rattle.pass_frames_code.specs.Distances.{IsBelow}
use Rattle.pass_frames_code.specs.Entry.{cells_of}
use Rattle.pass_frames_code.specs.FromEdges.{IsEarlyInFrame}
use Rattle.pass_frames_code.specs.Ordinary.{IsPlainName}
use Rattle.pass_frames_code.specs.Places.{Framing, copies, edged, framed, instrs_at, is_return, offsets, plan}
use Rattle.pass_frames_code.specs.Related.{Building, all_slots, is_coroutine}
use Rattle.pass_frames_code.specs.Slotted.{AreRangesApart, IsSlotField}
use Rattle.pass_frames_code.specs.Stepping.{AreNamesInOrder, state_in}
use Rattle.pass_proofs.specs.addresses.rules.Addresses.{lies_in_frame}
use Rattle.pass_renewed_proof.specs.Renewed.{RenewedGiven}
use Rattle.pass_proofs.specs.run_framed.Framed.{layout_of}
use Rattle.pass_proofs.specs.run_laws.transfer.Places.{IsBlank}
use Rattle.pass_proofs.specs.run_memory.Memory.{is_live, may_be_owned, same_kind}
use Rattle.pass_proofs.specs.run_memory.declared.block.Kind.{Kind}
use Rattle.pass_proofs.specs.run_memory.declared.block.MemoryBlock.{MemoryBlock}
use Rattle.pass_proofs.specs.run_source.Source.{is_among}
use Rattle.pass_proofs.specs.run_source.State.{own_facts, own_frame}
use Rattle.pass_proofs.specs.run_source.declared.state.Activation.{Activation}
use Rattle.pass_proofs.specs.run_source.declared.state.Instance.{Instance}
use Rattle.pass_proofs.specs.run_source.declared.state.Mode.{Mode}
use Rattle.pass_proofs.specs.run_source.declared.state.State.{State}
use Rattle.pass_proofs.specs.run_source_tables.Given.{frame_of}
use Rattle.pass_proofs.specs.run_step.Values.{operand_value, pointer_to}
use Rattle.pass_proofs.specs.run_step.declared.world.Slot.{Slot}

abbrev pub begin_call : Option ℕ → Bool → Option Ty → Arg → Ty → Operand → Instr
begin_call result must_tail ty id t memory =
    Instr.Call result must_tail ty (Callee.Intrinsic Intrinsic.CoroBegin)
    (id ∷ record { ty = t; value = memory } ∷ [])

-- an operand that neither is kept in a cell nor lies in the frame
pub record IsPlainOperand (x : Framing) (o : Operand) : Type 0 where
  pub loaded : fetch_of (fetches_of (plan x)) o ≡ None
  pub placed : fetch_of (slot_table x) o ≡ None

-- A slot that will lie in the frame has its field. If it isn't used before begin, it holds nothing.
pub record IsSlotAtBegin (b : Building) (s : State) (slot : Slot) : Type 0 where
  pub position : ℕ
  pub held : position_of (b.framing s.top.func).contents.held slot.alloca ≡ Some position
  pub field : (x : MemoryBlock) → slice_get s.world.memory slot.block ≡ Some x
      → IsSlotField (layout_of b.given.layouts s.top.func) (offset_at (b.framing s.top.func).layout position) x.size
      x.align
  pub blank : ((e : EarlySlot) → Contains (copies (b.framing s.top.func)).slots e → e.slot ≢ slot.alloca)
      → (x : MemoryBlock) → slice_get s.world.memory slot.block ≡ Some x → is_live x.life ≡ true → IsBlank x

-- A slot that is used before begin has a place in the frame (`early_slots_lie_in_frames`) and bytes (Y4). Its alloca
-- stands in front of each access, and so the activation has made it. The block has its size.
pub record IsEarlyAtBegin (b : Building) (s : State) (e : EarlySlot) : Type 0 where
  pub place : IsEarlyInFrame (b.framing s.top.func) 0 e
  pub some : 0 < e.size
  pub made : (slot : Slot) × Contains s.top.slots slot × (slot.alloca ≡ e.slot)
  pub sized : (slot : Slot) → Contains s.top.slots slot → slot.alloca ≡ e.slot → (x : MemoryBlock)
      → slice_get s.world.memory slot.block ≡ Some x → (x.size ≡ e.size) × (1 ≤ x.align)

-- What is known of the slots that are used before begin. Each has names of its own, and its field conflicts with those
-- of the others, dead or alive.
pub record AreEarlyAtBegin (b : Building) (s : State) : Type 0 where
  pub each : (e : EarlySlot) → Contains (copies (b.framing s.top.func)).slots e → IsEarlyAtBegin b s e
  pub slots : AreDifferent (map (λ (e : EarlySlot). e.slot) (copies (b.framing s.top.func)).slots)
  pub cells : AreDifferent (cells_of (copies (b.framing s.top.func)).slots)
  pub apart : (e f : EarlySlot) → Contains (copies (b.framing s.top.func)).slots e
      → Contains (copies (b.framing s.top.func)).slots f → e.slot ≢ f.slot → (p q : ℕ)
      → position_of (b.framing s.top.func).contents.held e.slot ≡ Some p
      → position_of (b.framing s.top.func).contents.held f.slot ≡ Some q
      → AreRangesApart (offset_at (b.framing s.top.func).layout p) e.size
      (offset_at (b.framing s.top.func).layout q) f.size

abbrev pub is_in_frame : Framing → Slot → Bool
is_in_frame x slot = lies_in_frame (offsets x) slot.alloca

-- The next step is begin, in the block of an allocator. Its memory may be kept in a cell, and slots may be used before
-- it. Slots of a ramp and those that are made anew are the activation's, and all others lie in the frame.
pub record IsAtBegin (b : Building) (g : RenewedGiven) (s : State) (result : Option ℕ) (must_tail : Bool)
    (ty : Option Ty) (id : Arg) (t : Ty) (memory : Operand) (block : ℕ) : Type 0 where
  pub runs : s.outcome ≡ Outcome.Running
  pub coroutine : is_coroutine b s.top.func ≡ true
  pub ramp : s.top.mode ≡ Mode.Ramp
  pub there : slice_get (instrs_at (b.framing s.top.func) s.top.block) s.top.at
      ≡ Some (begin_call result must_tail ty id t memory)
  pub unreturned : is_return (b.framing s.top.func) s.top.block ≡ false
  pub token : IsPlainOperand (b.framing s.top.func) id.value
  pub low : IsBelow (length (edged (b.framing s.top.func)).names) memory
  pub token_low : IsBelow (length (edged (b.framing s.top.func)).names) id.value
  pub outside : fetch_of (slot_table (b.framing s.top.func)) memory ≡ None
  -- new names come in the order of the passes, also those of the copies behind begin, whose name is the frame's
  pub order : AreNamesInOrder (b.framing s.top.func) (state_in (b.framing s.top.func) s.top.block s.top.at)
      (begin_call result must_tail ty id t memory)
  pub copies_room : (address_state (state_in (b.framing s.top.func) s.top.block s.top.at)).0
      + 2 * length (copies (b.framing s.top.func)).slots ≤ length (framed (b.framing s.top.func)).names
  pub begun : (result ≡ Some (begin_of (b.framing s.top.func).function))
      × (begin_of (b.framing s.top.func).function < length (edged (b.framing s.top.func)).names)
  pub named : (v : ℕ) → result ≡ Some v
      → IsPlainName (b.framing s.top.func) v × (entry (plan (b.framing s.top.func)).places v ≡ None)
      × (v < length (framed (b.framing s.top.func)).names)
  pub room : length s.top.values ≡ length (edged (b.framing s.top.func)).names
  pub names : (at u align : ℕ) (ty' : Ty)
      → slice_get (instrs_at (b.framing s.top.func) 0) at ≡ Some (Instr.Alloca u ty' align)
      → (u < length (edged (b.framing s.top.func)).names) × (result ≡ Some u → ⊥)
  pub early : AreEarlyAtBegin b s
  -- the block, which nobody has begun in
  pub none : s.top.instance ≡ None
  pub value : operand_value g.given.code s.top.values t memory ≡ pointer_to block
  pub may : may_be_owned Kind.Allocator (own_frame g.given s).size (slice_get s.world.memory block) ≡ true
  pub fresh : (j : ℕ) (x : Instance) → slice_get s.instances j ≡ Some x → x.block ≢ block
  -- what both runs are given says the same size
  pub sizes : frame_of b.given.given.sizes s.top.func ≡ frame_of g.given.sizes s.top.func
  pub laid : (layout_of b.given.layouts s.top.func).size ≡ (own_frame g.given s).size
  -- slots
  pub classes : (slot : Slot) → Contains s.top.slots slot
      → is_among (own_facts g.given s).ramp_slots slot ≡ not (is_in_frame (b.framing s.top.func) slot)
  pub slots : (slot : Slot) → Contains s.top.slots slot → is_in_frame (b.framing s.top.func) slot ≡ true
      → IsSlotAtBegin b s slot
  pub apart : (one other : Slot) → Contains s.top.slots one → Contains s.top.slots other
      → is_in_frame (b.framing s.top.func) one ≡ true → is_in_frame (b.framing s.top.func) other ≡ true
      → one.block ≢ other.block → (x y : MemoryBlock) → slice_get s.world.memory one.block ≡ Some x
      → slice_get s.world.memory other.block ≡ Some y → is_live x.life ≡ true → is_live y.life ≡ true → (p q : ℕ)
      → position_of (b.framing s.top.func).contents.held one.alloca ≡ Some p
      → position_of (b.framing s.top.func).contents.held other.alloca ≡ Some q
      → AreRangesApart (offset_at (b.framing s.top.func).layout p) x.size
      (offset_at (b.framing s.top.func).layout q) y.size
  pub once : AreDifferent (map (λ (slot : Slot). slot.block) (all_slots s))
  pub others : (a : Activation) → IsListed a s.below → (j : ℕ) → a.instance ≡ Some j → j < length s.instances

-- The block of a temporary lives, and has the size of its slot.
pub record IsTemporary (e : EarlySlot) (memory : List MemoryBlock) (n : ℕ) : Type 0 where
  pub block : MemoryBlock
  pub there : slice_get memory n ≡ Some block
  pub live : is_live block.life ≡ true
  pub writable : same_kind block.kind Kind.Constant ≡ false
  pub whole : length block.bytes ≡ block.size
  pub sized : block.size ≡ e.size
  pub even : 1 ≤ block.align

-- So it is of each temporary of the activation on top: no marker names one (an invariant of framed runs).
pub record HasLiveTemporaries (b : Building) (t : State) : Type 0 where
  pub each : (e : EarlySlot) → Contains (copies (b.framing t.top.func)).slots e → (n : ℕ)
      → Contains t.top.slots (record { alloca = e.temporary; block = n }) → IsTemporary e t.world.memory n

-- In the framed run no slot is an instance's, and none has the block of an allocator.
pub record HasPlainSlots (b : Building) (t : State) : Type 0 where
  pub own : (slot : Slot) → Contains t.top.slots slot → is_among (own_facts b.given.given t).ramp_slots slot ≡ true
  pub heaps : (a : Activation) → IsListed a (t.top ∷ t.below) → (slot : Slot) → Contains a.slots slot
      → (x : MemoryBlock) → slice_get t.world.memory slot.block ≡ Some x → same_kind x.kind Kind.Allocator ≡ false
