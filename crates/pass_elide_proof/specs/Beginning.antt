-- Both runs begin a coroutine.
use Rattle.std.specs.Prelude.{◌≡◌, ◌≢◌, ◌+◌, ◌^◌, ◌<◌, ℕ, Bool, true, false, List, ◌∷◌, length, slice_get, Some, None, Option}
use Rattle.pass_elide_proof.specs.Both.{AreAtCall, IsPlainName}
use Rattle.pass_elide_proof.specs.Elision.{Elision, elided, framed}
use Rattle.pass_elide_proof.specs.Match.{AreElided, IsNoGivenFrame, frame_size, is_given_mode, sides}
use Rattle.pass_proofs.specs.ir_model.Ty.{Ty}
use Rattle.pass_proofs.specs.ir_model.declared.operand.Arg.{Arg}
use Rattle.pass_proofs.specs.ir_model.declared.operand.Intrinsic.{Intrinsic}
use Rattle.pass_proofs.specs.ir_model.declared.operand.Operand.{Operand}
use Rattle.pass_proofs.specs.ir_paths.Windows.{operand_at}
use Rattle.pass_proofs.specs.run_laws.changed.Changed.{Each}
use Rattle.pass_proofs.specs.run_laws.memory.Pointers.{home_of}
use Rattle.pass_proofs.specs.run_memory.Memory.{is_live}
use Rattle.pass_proofs.specs.run_memory.declared.block.Kind.{Kind}
use Rattle.pass_proofs.specs.run_memory.declared.block.MemoryBlock.{MemoryBlock}
use Rattle.pass_proofs.specs.run_source.Source.{is_among}
use Rattle.pass_proofs.specs.run_source.State.{is_finished, own_facts}
use Rattle.pass_proofs.specs.run_source.declared.state.Activation.{Activation}
use Rattle.pass_proofs.specs.run_source.declared.state.Instance.{Instance}
use Rattle.pass_proofs.specs.run_source.declared.state.Mode.{Mode}
use Rattle.pass_proofs.specs.run_source.declared.state.State.{State}
use Rattle.pass_proofs.specs.run_source_tables.Given.{Given}
use Rattle.pass_proofs.specs.run_step.Values.{arg_values, nth, pointer_to}
use Rattle.pass_proofs.specs.run_step.declared.world.Slot.{Slot}

-- ---- what each state of the runs has

-- the slots of the topmost activation come from allocas of its function
abbrev pub HasOwnSlots : Given → State → Type 0
HasOwnSlots g s = Each (λ (z : Slot). is_among (own_facts g s).ramp_slots z ≡ true) s.top.slots

-- no slot is an allocator's block
abbrev pub IsNoHeapSlot : List MemoryBlock → Slot → Type 0
IsNoHeapSlot m z = (x : MemoryBlock) → slice_get m z.block ≡ Some x → x.kind ≡ Kind.Allocator → ⊥

abbrev pub HasNoHeapSlot : List MemoryBlock → Activation → Type 0
HasNoHeapSlot m a = Each (IsNoHeapSlot m) a.slots

-- the instance of an activation is one that there is
abbrev pub IsKnownTo : List Instance → Activation → Type 0
IsKnownTo instances c = (i : ℕ) → c.instance ≡ Some i → i < length instances

pub record HaveFrames (e : Elision) (s t : State) : Type 0 where
  -- in the framed run a block in which a frame lies is owned while it lives
  pub owned : (i : ℕ) (x : Instance) (z : MemoryBlock) → slice_get s.instances i ≡ Some x
      → slice_get s.world.memory x.block ≡ Some z → is_live z.life ≡ true → z.owned ≡ None → ⊥
  -- in the other one, where no frame lies in another one, frames begin their blocks
  pub starts : (i : ℕ) (y : Instance) → slice_get t.instances i ≡ Some y → y.start ≡ 0
  pub slots : HasOwnSlots (framed e).given s
  pub others : HasOwnSlots (elided e).given t
  pub heaps : Each (HasNoHeapSlot s.world.memory) (s.top ∷ s.below)
  pub known : Each (IsKnownTo t.instances) (t.top ∷ t.below)

-- ---- a ramp that allocates

pub record IsAtBegin (e : Elision) (s t : State) (result : Option ℕ) (must_tail : Bool) (ty : Option Ty)
    (args : List Arg) : Type 0 where
  pub call : AreAtCall e s t Intrinsic.CoroBegin result must_tail ty args
  pub ramp : is_given_mode t.top.mode ≡ false
  pub frames : HaveFrames e s t

-- ---- a ramp that was given its frame

-- A live stack block of the frame's size, which nobody owns. All that began there is Finished, and its blocks in the
-- framed run are gone. No other block of that run stands there.
pub record HasRoomAt (e : Elision) (s t : State) (r : AreElided e s t) (block : ℕ) : Type 0 where
  pub there : MemoryBlock
  pub is_there : slice_get t.world.memory block ≡ Some there
  pub kind : there.kind ≡ Kind.Stack
  pub live : is_live there.life ≡ true
  pub unowned : there.owned ≡ None
  pub sized : there.size ≡ frame_size e s.top.func
  pub full : length there.bytes ≡ there.size
  pub over : (i : ℕ) (y : Instance) → slice_get t.instances i ≡ Some y → y.block ≡ block
      → is_finished y.status ≡ true
  pub gone : (i : ℕ) (x y : Instance) (z : MemoryBlock) → slice_get s.instances i ≡ Some x
      → slice_get t.instances i ≡ Some y → y.block ≡ block → slice_get s.world.memory x.block ≡ Some z
      → is_live z.life ≡ false
  pub free : (n : ℕ) → n < length s.world.memory → r.hides n ≡ false → IsNoGivenFrame (sides s t) n
      → (home_of r.homes n).block ≢ block

-- if begin's memory is the start of a block, that has the size of the frame
abbrev pub BeginsInFrameSize : Elision → State → List Arg → Type 0
BeginsInFrameSize e s args =
    (block : ℕ) (z : MemoryBlock) → nth (arg_values e.code s.top.values args) 1 ≡ pointer_to block
    → slice_get s.world.memory block ≡ Some z → z.size ≡ frame_size e s.top.func

pub record IsAtGivenBegin (e : Elision) (s t : State) (r : AreElided e s t) (result : Option ℕ) (must_tail : Bool)
    (ty : Option Ty) (args : List Arg) : Type 0 where
  pub call : AreAtCall e s t Intrinsic.CoroBegin result must_tail ty args
  pub frames : HaveFrames e s t
  pub block : ℕ
  pub mode : t.top.mode ≡ Mode.GivenRamp (pointer_to block)
  pub room : HasRoomAt e s t r block
  pub small : frame_size e s.top.func < 2 ^ 64
  pub exact : BeginsInFrameSize e s args
  -- it begins in the block that it holds, and holds it no more
  pub memory : ℕ
  pub takes : operand_at args 1 ≡ Operand.Local memory
  pub holds : (e.shape s.top.func).holds s.top.block s.top.at ≡ Some memory
  pub behind : (e.shape s.top.func).holds s.top.block (s.top.at + 1) ≡ None
  pub plain : (v : ℕ) → result ≡ Some v → IsPlainName (e.shape s.top.func) v
