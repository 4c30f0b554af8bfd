-- Frames in blocks of allocators, while a framed run keeps them: each lives, and is owned, until its instance is
-- freed.
use Rattle.std.specs.Prelude.{◌≡◌, ◌≢◌, ℕ, ◌<◌, Bool, true, false, List, [], ◌∷◌, length, slice_get, Some, Option, is_some, ◌&&◌, ◌==◌}
use Rattle.std.specs.Option.{option_map_or}
use Rattle.pass_proofs.specs.ir_base.declared.outcome.Word.{Word}
use Rattle.pass_proofs.specs.ir_model.declared.instr.Instr.{Instr}
use Rattle.pass_proofs.specs.ir_model.declared.operand.Callee.{Callee}
use Rattle.pass_split_proof.specs.states.Instances.{lives_in}
use Rattle.pass_proofs.specs.run_framed.Framed.{FramedGiven, framed_state_at}
use Rattle.pass_proofs.specs.run_laws.changed.Changed.{Each}
use Rattle.pass_proofs.specs.run_memory.Memory.{is_killed, is_live, same_kind}
use Rattle.pass_proofs.specs.run_memory.declared.block.Kind.{Kind}
use Rattle.pass_proofs.specs.run_memory.declared.block.MemoryBlock.{MemoryBlock}
use Rattle.pass_proofs.specs.run_source.State.{function_of, is_finished, is_suspended}
use Rattle.pass_proofs.specs.run_source.declared.state.Activation.{Activation}
use Rattle.pass_proofs.specs.run_source.declared.state.Instance.{Instance}
use Rattle.pass_proofs.specs.run_source.declared.state.State.{State}
use Rattle.pass_proofs.specs.run_step.Step.{AtInstr, Fetched, block_of, fetch, is_lifetime}
use Rattle.pass_proofs.specs.run_step.Values.{arg_values, nth}
use Rattle.pass_proofs.specs.run_step.declared.world.Slot.{Slot}

-- ---- blocks

-- there is a block of an allocator
abbrev pub is_heap_in : Option MemoryBlock → Bool
is_heap_in o = option_map_or (λ y. same_kind y.kind Kind.Allocator) o false

-- there is a stack block
abbrev pub is_stack_in : Option MemoryBlock → Bool
is_stack_in o = option_map_or (λ y. same_kind y.kind Kind.Stack) o false

-- there is a block that lives and is owned
abbrev pub is_kept_in : Option MemoryBlock → Bool
is_kept_in o = option_map_or (λ y. is_live y.life && is_some y.owned) o false

-- there is a block that was killed
abbrev pub is_killed_in : Option MemoryBlock → Bool
is_killed_in o = option_map_or (λ y. is_killed y.life) o false

-- there is a block, of no allocator
pub record IsNoHeap (m : List MemoryBlock) (b : ℕ) : Type 0 where
  pub known : b < length m
  pub is : is_heap_in (slice_get m b) ≡ false

-- ---- instances

-- A frame at the start of an allocator's block has it alone until its instance is freed: the block lives and is owned.
-- It is dead where the instance was freed, and a Suspended one isn't freed.
pub record AreKept (xs : List Instance) (m : List MemoryBlock) : Type 0 where
  pub known : (i : ℕ) (x : Instance) → slice_get xs i ≡ Some x → x.block < length m
  pub kept : (i : ℕ) (x : Instance) → slice_get xs i ≡ Some x → x.freed ≡ false → x.start ≡ 0
      → is_heap_in (slice_get m x.block) ≡ true → is_kept_in (slice_get m x.block) ≡ true
  pub gone : (i : ℕ) (x : Instance) → slice_get xs i ≡ Some x → x.freed ≡ true
      → is_heap_in (slice_get m x.block) ≡ true → is_killed_in (slice_get m x.block) ≡ true
  pub apart : (i j : ℕ) (x y : Instance) → slice_get xs i ≡ Some x → slice_get xs j ≡ Some y → i ≢ j
      → x.freed ≡ false → y.freed ≡ false → x.start ≡ 0 → y.start ≡ 0 → x.block ≡ y.block
      → is_heap_in (slice_get m x.block) ≡ true → ⊥
  pub unfreed : (i : ℕ) (x : Instance) → slice_get xs i ≡ Some x → is_suspended x.status ≡ true → x.freed ≡ false
  pub slots : (i : ℕ) (x : Instance) → slice_get xs i ≡ Some x → Each (λ (slot : Slot). IsNoHeap m slot.block) x.slots

-- ---- states

-- slots of activations are no blocks of allocators
abbrev pub HaveSlots : List MemoryBlock → List Activation → Type 0
HaveSlots m [] = Unit {0}
HaveSlots m (a ∷ below) = Each (λ (slot : Slot). IsNoHeap m slot.block) a.slots × HaveSlots m below

pub record IsKeptState (s : State) : Type 0 where
  pub instances : AreKept s.instances s.world.memory
  pub top : Each (λ (slot : Slot). IsNoHeap s.world.memory slot.block) s.top.slots
  pub below : HaveSlots s.world.memory s.below

-- ---- what is asked

-- a marker that the run is at marks no block of an allocator: its operand is an alloca
abbrev pub MarksNoHeap : FramedGiven → State → Fetched → Type 0
MarksNoHeap g s (AtInstr (Instr.Call result must_tail ty (Callee.Intrinsic i) args)) =
    is_lifetime (Callee.Intrinsic i) ≡ true → (b : ℕ)
    → block_of (nth (arg_values g.given.code s.top.values args) 1) ≡ Some b
    → is_heap_in (slice_get s.world.memory b) ≡ false
MarksNoHeap g s _ = Unit {0}

-- so it is in each state of a run
abbrev pub MarksNoHeaps : FramedGiven → ℕ → List Word → Type 0
MarksNoHeaps g entry args = (n : ℕ) → MarksNoHeap g (framed_state_at g entry args n)
    (fetch (function_of g.given (framed_state_at g entry args n)) (framed_state_at g entry args n).top.block
    (framed_state_at g entry args n).top.at)

-- the frame begins an allocator's block; any other frame was given
abbrev pub begins_heap : List MemoryBlock → Instance → Bool
begins_heap m x = is_heap_in (slice_get m x.block) && (x.start == 0)

-- In each state of a run the block of a frame that was given lives while its instance isn't Finished: each such
-- instance is destroyed before its block dies.
abbrev pub DoGivenFramesLive : FramedGiven → ℕ → List Word → Type 0
DoGivenFramesLive g entry args = (n i : ℕ) (x : Instance)
    → slice_get (framed_state_at g entry args n).instances i ≡ Some x
    → begins_heap (framed_state_at g entry args n).world.memory x ≡ false → is_finished x.status ≡ false
    → lives_in (slice_get (framed_state_at g entry args n).world.memory x.block) ≡ true
