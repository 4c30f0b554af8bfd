-- Returns in both runs: what is asked of the two states and of what stands at their place.
use Rattle.std.specs.Prelude.{◌≡◌, ◌≢◌, ◌+◌, ◌<◌, ◌⊎◌, ◌||◌, ℕ, Bool, true, false, List, [], ◌∷◌, length, slice_get, Some, None, Option}
use Rattle.elide_sites.specs.Sites.{IsDestroyed}
use Rattle.pass_elide_proof.specs.Calling.{HoldsStill, IsAlike, differing}
use Rattle.pass_elide_proof.specs.Counts.{capped, given_frames}
use Rattle.pass_elide_proof.specs.Elision.{Elision, function_in, rooms}
use Rattle.pass_elide_proof.specs.Invariant.{HasCaller, HaveCallers, IsCalledIn, IsSiteOf}
use Rattle.pass_elide_proof.specs.Match.{held_name, is_given_mode}
use Rattle.pass_elide_proof.specs.Places.{instrs_of, put_by, room_at}
use Rattle.pass_proofs.specs.ir_base.declared.outcome.Outcome.{Outcome}
use Rattle.pass_proofs.specs.ir_model.Ty.{Ty}
use Rattle.pass_proofs.specs.ir_model.declared.instr.Instr.{Instr}
use Rattle.pass_proofs.specs.ir_model.declared.instr.Terminator.{Terminator}
use Rattle.pass_proofs.specs.ir_model.declared.module.Block.{Block}
use Rattle.pass_proofs.specs.ir_model.declared.operand.Arg.{Arg}
use Rattle.pass_proofs.specs.ir_model.declared.operand.Callee.{Callee}
use Rattle.pass_proofs.specs.ir_model.declared.operand.Intrinsic.{Intrinsic}
use Rattle.pass_proofs.specs.ir_paths.declared.point.Point.{Point}
use Rattle.pass_proofs.specs.run_agreement.Machines.{IsReturned}
use Rattle.pass_proofs.specs.run_framed.Framed.{is_given}
use Rattle.pass_proofs.specs.run_memory.Memory.{is_killed, same_kind}
use Rattle.pass_proofs.specs.run_memory.declared.block.Kind.{Kind}
use Rattle.pass_proofs.specs.run_memory.declared.block.MemoryBlock.{MemoryBlock}
use Rattle.pass_proofs.specs.run_source.State.{is_finished}
use Rattle.pass_proofs.specs.run_source.declared.state.Activation.{Activation}
use Rattle.pass_proofs.specs.run_source.declared.state.Instance.{Instance}
use Rattle.pass_proofs.specs.run_source.declared.state.Mode.{Mode}
use Rattle.pass_proofs.specs.run_source.declared.state.State.{State}
use Rattle.pass_proofs.specs.run_step.declared.world.Slot.{Slot}

-- ---- slots of a state, as in each state of a run

-- the block of an alloca
abbrev pub IsAllocaKind : Kind → Type 0
IsAllocaKind k = (same_kind k Kind.Slot || same_kind k Kind.Stack) ≡ true

-- an activation of the stack, the topmost of which has the number 0, has the slot at a position
pub record HasSlot (t : State) (number position : ℕ) (z : Slot) : Type 0 where
  pub activation : Activation
  pub there : slice_get (t.top ∷ t.below) number ≡ Some activation
  pub slot : slice_get activation.slots position ≡ Some z

-- there is a block of an alloca that wasn't killed
pub record IsAllocaBlock (memory : List MemoryBlock) (b : ℕ) : Type 0 where
  pub block : MemoryBlock
  pub there : slice_get memory b ≡ Some block
  pub made : IsAllocaKind block.kind
  pub unkilled : is_killed block.life ≡ false

-- each slot has such a block, and no two have one
pub record HaveOwnSlots (t : State) : Type 0 where
  pub blocks : (j m : ℕ) (z : Slot) → HasSlot t j m z → IsAllocaBlock t.world.memory z.block
  pub once : (j k m n : ℕ) (y z : Slot) → HasSlot t j m y → HasSlot t k n z → y.block ≡ z.block
      → (j ≡ k) × (m ≡ n)

-- the slot of a block
pub record IsListed (t : State) (b : ℕ) : Type 0 where
  pub number : ℕ
  pub position : ℕ
  pub slot : Slot
  pub has : HasSlot t number position slot
  pub same : slot.block ≡ b

-- Each alloca's block that wasn't killed is a slot. Frames begin allocators' blocks, which were killed if they were
-- freed.
pub record HaveOwnBlocks (s : State) : Type 0 where
  pub slots : HaveOwnSlots s
  pub listed : (b : ℕ) → IsAllocaBlock s.world.memory b → IsListed s b
  pub heaps : (i : ℕ) (x : Instance) (z : MemoryBlock) → slice_get s.instances i ≡ Some x
      → slice_get s.world.memory x.block ≡ Some z → z.kind ≡ Kind.Allocator
  pub gone : (i : ℕ) (x : Instance) (z : MemoryBlock) → slice_get s.instances i ≡ Some x → x.freed ≡ true
      → slice_get s.world.memory x.block ≡ Some z → is_killed z.life ≡ true

-- what its caller holds no more was freed in the first run
abbrev pub AreFreed : Elision → State → State → Type 0
AreFreed e s t =
    (number : ℕ) (x y : Instance) → slice_get s.instances number ≡ Some x → slice_get t.instances number ≡ Some y
    → is_given t.world.memory y ≡ true → is_finished y.status ≡ true
    → (x.freed ≡ true) ⊎ IsCalledIn e t.world.memory y number [] (t.top ∷ t.below)

-- ---- an activation that may end

-- It holds no block, and waits for no instance whose frame lies in an alloca of it.
pub record MayEnd (e : Elision) (s t : State) : Type 0 where
  pub held : held_name e (is_given_mode t.top.mode) s.top ≡ None
  pub alone : (y : Instance) (number : ℕ) → HasCaller e t.world.memory y number t.top [] → ⊥
  -- of both runs
  pub ours : HaveOwnBlocks s
  pub theirs : HaveOwnSlots t
  pub callers : HaveCallers e t
  pub freed : AreFreed e s t

-- ---- a return

-- what is returned is no name that differs
abbrev pub ReturnsAlike : Elision → State → State → Option Arg → Type 0
ReturnsAlike e s t None = Unit {0}
ReturnsAlike e s t (Some arg) = IsAlike (differing e s t) arg.value

-- what is asked of a return
pub record IsAtReturn (e : Elision) (s t : State) : Type 0 where
  pub runs : s.outcome ≡ Outcome.Running
  pub block : Block
  pub has_block : slice_get (function_in e s.top.func).blocks s.top.block ≡ Some block
  pub at : s.top.at ≡ length block.instrs
  pub value : Option Arg
  pub term : block.term ≡ Terminator.Ret value
  pub reads : ReturnsAlike e s t value
  -- no block is held
  pub held : held_name e (is_given_mode t.top.mode) s.top ≡ None
  -- no field is put in front of a call, and handles of sites are destroyed before
  pub unput : (block at : ℕ) (i : Instr) → put_by (rooms e s.top.func block at i) ≡ 0
  pub destroyed : (call : Point) (i : Instr) (name : ℕ) → IsSiteOf e s.top.func call i name
      → IsDestroyed (function_in e s.top.func) call
  -- of both runs
  pub ours : HaveOwnBlocks s
  pub theirs : HaveOwnSlots t
  pub callers : HaveCallers e t
  pub freed : AreFreed e s t

-- the name that a call sets is one of its function, and one of what a ramp that is given its frame has alike
pub record SetsAlike (e : Elision) (a : Activation) (result : Option ℕ) : Type 0 where
  pub low : (v : ℕ) → result ≡ Some v → v < length (function_in e a.func).names
  pub need : (v : ℕ) → result ≡ Some v → (e.shape a.func).need v ≡ false
  pub freed : (v : ℕ) → result ≡ Some v → (e.shape a.func).freed v ≡ false
  pub tested : (v : ℕ) → result ≡ Some v → (e.shape a.func).tested v ≡ None
  pub kept : (v name : ℕ) → result ≡ Some v → (e.shape a.func).holds a.block a.at ≡ Some name → name ≢ v

-- a return to a caller
pub record ReturnsTo (e : Elision) (s : State) : Type 0 where
  pub caller : Activation
  pub rest : List Activation
  pub below : s.below ≡ caller ∷ rest
  pub sets : SetsAlike e caller s.top.result

-- ---- runs that are over

-- both have returned the same behind the same calls, the second with fewer calls of the allocator
pub record HaveReturned (s t : State) : Type 0 where
  pub returned : IsReturned s.outcome
  pub outcome : t.outcome ≡ s.outcome
  pub events : t.world.events ≡ s.world.events
  pub allocs : s.world.allocs ≡ capped (t.world.allocs + given_frames t)

-- ---- the end behind a suspend

-- what is asked where an activation whose coroutine was suspended comes to coro.end
pub record IsAtLeftEnd (e : Elision) (s t : State) : Type 0 where
  pub runs : s.outcome ≡ Outcome.Running
  pub result : Option ℕ
  pub must_tail : Bool
  pub ty : Option Ty
  pub args : List Arg
  pub there : slice_get (instrs_of (function_in e s.top.func) s.top.block) s.top.at
      ≡ Some (Instr.Call result must_tail ty (Callee.Intrinsic Intrinsic.CoroEnd) args)
  pub none : room_at (rooms e s.top.func) (function_in e s.top.func) s.top.block s.top.at
      (Instr.Call result must_tail ty (Callee.Intrinsic Intrinsic.CoroEnd) args) ≡ None
  pub left : s.top.has_left ≡ true

-- a ramp goes on
pub record GoesOnBehind (e : Elision) (s : State) (result : Option ℕ) : Type 0 where
  pub ramp : s.top.mode ≡ Mode.Ramp
  pub holds : HoldsStill e s
  pub sets : SetsAlike e (record s.top { at = s.top.at + 1 }) result

-- an activation that was resumed returns; calls in a coroutine give no alloca
pub record LeadsBack (e : Elision) (s t : State) : Type 0 where
  pub resumed : s.top.mode ≡ Mode.Resumed
  pub coroutine : (function_in e s.top.func).coroutine ≡ true
  pub returns : ReturnsTo e s
  pub ours : HaveOwnBlocks s
  pub theirs : HaveOwnSlots t
  pub callers : HaveCallers e t
  pub freed : AreFreed e s t
