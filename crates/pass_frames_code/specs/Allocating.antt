-- What is asked of a state whose next step is an alloca.
use Rattle.std.specs.List.{Contains, list_any}
use Rattle.std.specs.Prelude.{◌≡◌, ◌≢◌, ◌+◌, ◌<◌, ◌≤◌, ◌^◌, ◌==◌, if◌then◌else◌, None, Some, false, length, slice_get, true, ℕ}
use Rattle.pass_proofs.specs.frame_contents.Held.{position_of}
use Rattle.pass_proofs.specs.ir_base.declared.outcome.Outcome.{Outcome}
use Rattle.pass_proofs.specs.ir_model.Layout.{size_of}
use Rattle.pass_proofs.specs.ir_model.Ty.{Ty}
use Rattle.pass_proofs.specs.ir_model.declared.instr.Instr.{Instr}
use Rattle.pass_proofs.specs.pass_cells.Kept.{entry}
use Rattle.pass_proofs.specs.pass_copies.declared.slot.EarlySlot.{EarlySlot}
use Rattle.pass_proofs.specs.pass_frames.Tables.{offset_at}
use Rattle.pass_frames_code.specs.Places.{copies, edged, framed, instrs_at, is_return, offsets, plan}
use Rattle.pass_frames_code.specs.Related.{Building, is_coroutine, is_first, root_of}
use Rattle.pass_frames_code.specs.Slotted.{AreRangesApart, HasFrameThere, HasOwnFrame, IsSlotField}
use Rattle.pass_frames_code.specs.Stepping.{IsNotEntering}
use Rattle.pass_proofs.specs.addresses.rules.Addresses.{lies_in_frame}
use Rattle.pass_renewed_proof.specs.Renewed.{RenewedGiven}
use Rattle.pass_proofs.specs.run_framed.Framed.{layout_of}
use Rattle.pass_proofs.specs.run_memory.Memory.{is_live}
use Rattle.pass_proofs.specs.run_memory.declared.block.MemoryBlock.{MemoryBlock}
use Rattle.pass_proofs.specs.run_memory.declared.pointer.Value.{Value}
use Rattle.pass_proofs.specs.run_source.Source.{is_over}
use Rattle.pass_proofs.specs.run_source.State.{function_of, own_facts}
use Rattle.pass_proofs.specs.run_source.declared.state.Instance.{Instance}
use Rattle.pass_proofs.specs.run_source.declared.state.State.{State}
use Rattle.pass_proofs.specs.run_step.Step.{AtInstr, fetch, has_markers, is_alignment}
use Rattle.pass_proofs.specs.run_step.Values.{value_in}
use Rattle.pass_proofs.specs.run_step.declared.world.Slot.{Slot}

-- The next step is an alloca of a function that is no coroutine. Such a function has no instance and makes nothing anew.
-- Its name is one of the activation's table, and types are the same in both modules.
pub record IsAtOtherAlloca (b : Building) (g : RenewedGiven) (s : State) (name : ℕ) (ty : Ty) (align : ℕ) : Type 0
  where
    pub runs : s.outcome ≡ Outcome.Running
    pub plain : is_coroutine b s.top.func ≡ false
    pub mode : IsNotEntering s.top.mode
    pub there : fetch (function_of g.given s) s.top.block s.top.at ≡ AtInstr (Instr.Alloca name ty align)
    pub aligned : is_alignment align ≡ true
    pub small : size_of g.given.code ty < 2 ^ 64
    pub sized : size_of b.framed_code ty ≡ size_of g.given.code ty
    pub instance : s.top.instance ≡ None
    pub off : g.flags s.top.func name ≡ false

-- The next step is an alloca in the entry block of a coroutine, whatever the activation is there for.
pub record IsAtAlloca (b : Building) (s : State) (name : ℕ) (ty : Ty) (align : ℕ) : Type 0 where
  pub runs : s.outcome ≡ Outcome.Running
  pub coroutine : is_coroutine b s.top.func ≡ true
  pub entry_block : s.top.block ≡ 0
  pub there : slice_get (instrs_at (b.framing s.top.func) 0) s.top.at ≡ Some (Instr.Alloca name ty align)
  pub aligned : is_alignment align ≡ true

-- The next step is an alloca of a ramp, in its entry block. Names of allocas are of the coroutine's table, and each is
-- that of one alone (N1). They are kept in no cell, and no distance from them is made yet: uses come behind (F2).
pub record IsAtRampAlloca (b : Building) (g : RenewedGiven) (s : State) (name : ℕ) (ty : Ty) (align : ℕ) : Type 0
  where
    pub runs : s.outcome ≡ Outcome.Running
    pub coroutine : is_coroutine b s.top.func ≡ true
    pub first : is_first s.top.mode ≡ true
    pub entry_block : s.top.block ≡ 0
    pub there : slice_get (instrs_at (b.framing s.top.func) 0) s.top.at ≡ Some (Instr.Alloca name ty align)
    pub aligned : is_alignment align ≡ true
    pub small : size_of g.given.code ty < 2 ^ 64
    pub unreturned : is_return (b.framing s.top.func) 0 ≡ false
    pub unkept : entry (plan (b.framing s.top.func)).places name ≡ None
    pub uncelled : entry (plan (b.framing s.top.func)).cells name ≡ None
    pub unrooted : (v cell : ℕ) → entry (plan (b.framing s.top.func)).cells v ≡ Some cell
        → root_of (b.framing s.top.func) v ≡ Some name → value_in s.top.values v ≡ Value.Poison
    pub room : length s.top.values ≡ length (edged (b.framing s.top.func)).names
    pub names : (at u align' : ℕ) (ty' : Ty)
        → slice_get (instrs_at (b.framing s.top.func) 0) at ≡ Some (Instr.Alloca u ty' align')
        → (u < length (edged (b.framing s.top.func)).names) × (u ≡ name → at ≡ s.top.at)

-- ---- where the slot of a ramp's alloca stands

-- Its slot lies in no frame: the framed form makes the same block, with the markers that it has left (of a slot that is
-- made anew none is left).
pub record IsWholeAlloca (b : Building) (g : RenewedGiven) (s : State) (name : ℕ) (ty : Ty) : Type 0 where
  pub outside : lies_in_frame (offsets (b.framing s.top.func)) name ≡ false
  pub sized : size_of (b.framing s.top.func).code ty ≡ size_of g.given.code ty
  pub marks : has_markers (framed (b.framing s.top.func)) name
      ≡ (if g.flags s.top.func name then false else has_markers (edged (b.framing s.top.func)) name)

-- the slot lies in the frame, and is used before begin in no access
pub record IsLateAlloca (b : Building) (s : State) (name : ℕ) : Type 0 where
  pub inside : lies_in_frame (offsets (b.framing s.top.func)) name ≡ true
  pub late : (e : EarlySlot) → Contains (copies (b.framing s.top.func)).slots e → e.slot ≢ name

-- The slot is used before begin. Its temporary is of its type, is no other's, and has no markers.
pub record IsEarlyAlloca (b : Building) (g : RenewedGiven) (s : State) (name : ℕ) (ty : Ty) (align : ℕ) : Type 0 where
  pub early : EarlySlot
  pub listed : Contains (copies (b.framing s.top.func)).slots early
  pub slot : early.slot ≡ name
  pub ty_is : early.ty ≡ ty
  pub align_is : early.align ≡ align
  pub inside : lies_in_frame (offsets (b.framing s.top.func)) name ≡ true
  pub sized : size_of (b.framing s.top.func).code ty ≡ size_of g.given.code ty
  pub marks : has_markers (framed (b.framing s.top.func)) early.temporary ≡ false
  pub alone : (e : EarlySlot) → Contains (copies (b.framing s.top.func)).slots e → e.temporary ≡ early.temporary
      → e.slot ≡ early.slot

-- ---- whose slot it is

-- behind begin a slot of a ramp or one that is made anew is the activation's still
pub record IsOwnBehind (g : RenewedGiven) (s : State) (name : ℕ) : Type 0 where
  pub number : ℕ
  pub instance : Instance
  pub own : s.top.instance ≡ Some number
  pub there : slice_get s.instances number ≡ Some instance
  pub among : list_any (λ (a : ℕ). a == name) (own_facts g.given s).ramp_slots ≡ true

-- or its instance's: it lies in the frame. Its field is apart from those of slots that live, with which it conflicts if
-- it lives at once.
pub record IsFrameBehind (b : Building) (g : RenewedGiven) (s : State) (name : ℕ) (ty : Ty) (align : ℕ) : Type 0 where
  pub number : ℕ
  pub instance : Instance
  pub position : ℕ
  pub own : s.top.instance ≡ Some number
  pub coroutine : instance.coroutine ≡ s.top.func
  pub among : list_any (λ (a : ℕ). a == name) (own_facts g.given s).ramp_slots ≡ false
  pub inside : lies_in_frame (offsets (b.framing s.top.func)) name ≡ true
  pub off : g.flags s.top.func name ≡ false
  pub alone : HasOwnFrame s number instance
  pub held : position_of (b.framing instance.coroutine).contents.held name ≡ Some position
  pub field : IsSlotField (layout_of b.given.layouts instance.coroutine)
      (offset_at (b.framing instance.coroutine).layout position) (size_of g.given.code ty) align
  pub frame : is_over instance ≡ false → HasFrameThere b s instance
  pub fits : (z : MemoryBlock) → slice_get s.world.memory instance.block ≡ Some z
      → instance.start + (layout_of b.given.layouts instance.coroutine).size ≤ z.size
  pub apart : has_markers (edged (b.framing s.top.func)) name ≡ false → (other : Slot)
      → Contains instance.slots other → (z : MemoryBlock) → slice_get s.world.memory other.block ≡ Some z
      → is_live z.life ≡ true → (p : ℕ)
      → position_of (b.framing instance.coroutine).contents.held other.alloca ≡ Some p
      → AreRangesApart (offset_at (b.framing instance.coroutine).layout p) z.size
      (offset_at (b.framing instance.coroutine).layout position) (size_of g.given.code ty)
