-- The slots of activations and instances in each state of a run by hooks, and the blocks in which instances begin.
use Rattle.std.specs.Prelude.{◌≡◌, ◌+◌, ◌||◌, ◌==◌, ◌≤◌, ℕ, Bool, true, false, List, [], ◌∷◌, slice_get, Some, None, Option, is_some, Result, Ok, Err}
use Rattle.run_hooks.specs.ir_base.declared.cause.Cause.{Cause}
use Rattle.run_hooks.specs.ir_base.declared.name.Name.{Name}
use Rattle.run_hooks.specs.ir_model.Names.{function_at}
use Rattle.run_hooks.specs.ir_model.Ty.{Ty}
use Rattle.run_hooks.specs.ir_model.declared.instr.Instr.{Instr}
use Rattle.run_hooks.specs.ir_model.declared.module.Module.{Module}
use Rattle.run_hooks.specs.ir_model.declared.operand.Arg.{Arg}
use Rattle.run_hooks.specs.ir_model.declared.operand.Callee.{Callee}
use Rattle.run_hooks.specs.ir_paths.declared.point.Point.{Point}
use Rattle.run_hooks.specs.run_framed.Framed.{given_ramp}
use Rattle.run_hooks.specs.Hooks.{Hooks}
use Rattle.run_hooks.specs.run_memory.Memory.{is_killed, same_kind}
use Rattle.run_hooks.specs.run_memory.declared.block.Kind.{Kind}
use Rattle.run_hooks.specs.run_memory.declared.block.MemoryBlock.{MemoryBlock}
use Rattle.run_hooks.specs.run_memory.declared.pointer.Value.{Value}
use Rattle.run_hooks.specs.run_source.Source.{is_over}
use Rattle.run_hooks.specs.run_source.State.{function_of}
use Rattle.run_hooks.specs.run_source.declared.state.Activation.{Activation}
use Rattle.run_hooks.specs.run_source.declared.state.Instance.{Instance}
use Rattle.run_hooks.specs.run_source.declared.state.Mode.{Mode}
use Rattle.run_hooks.specs.run_source.declared.state.State.{State}
use Rattle.run_hooks.specs.run_step.Step.{AtInstr, fetch}
use Rattle.run_hooks.specs.run_step.Values.{Env}
use Rattle.run_hooks.specs.run_step.declared.world.Slot.{Slot}

-- ---- how many slots have a block

abbrev pub once_if : Bool → ℕ
once_if true = 1
once_if false = 0

abbrev pub times : ℕ → List Slot → ℕ
times n [] = 0
times n (s ∷ ss) = once_if (s.block == n) + times n ss

-- of activations
abbrev pub times_on : List Activation → ℕ → ℕ
times_on [] n = 0
times_on (a ∷ below) n = times n a.slots + times_on below n

-- of instances
abbrev pub times_in : ℕ → List Instance → ℕ
times_in n [] = 0
times_in n (x ∷ xs) = times n x.slots + times_in n xs

-- ---- blocks

-- the block of an alloca
abbrev pub is_alloca_block : MemoryBlock → Bool
is_alloca_block x = same_kind x.kind Kind.Slot || same_kind x.kind Kind.Stack

abbrev pub is_killed_in : Option MemoryBlock → Bool
is_killed_in None = true
is_killed_in (Some x) = is_killed x.life

-- the block was killed, if there is one
abbrev pub is_killed_at : List MemoryBlock → ℕ → Bool
is_killed_at m n = is_killed_in (slice_get m n)

-- the block of an alloca, which nobody owns
pub record IsSlotBlock (m : List MemoryBlock) (n : ℕ) : Type 0 where
  pub block : MemoryBlock
  pub there : slice_get m n ≡ Some block
  pub made : is_alloca_block block ≡ true
  pub free : block.owned ≡ None

-- An instance begins at the start of an allocator's block. It owns that until it is freed, and then the block is killed.
pub record IsFrameBlock (m : List MemoryBlock) (x : Instance) : Type 0 where
  pub block : MemoryBlock
  pub there : slice_get m x.block ≡ Some block
  pub heap : block.kind ≡ Kind.Allocator
  pub start : x.start ≡ 0
  pub unkilled : x.freed ≡ false → is_killed block.life ≡ false
  pub owned : x.freed ≡ false → is_some block.owned ≡ true
  pub gone : x.freed ≡ true → is_killed block.life ≡ true

-- ---- states

-- A memory with so many slots of activations for each block, and instances.
pub record AreSlotted (m : List MemoryBlock) (own : ℕ → ℕ) (xs : List Instance) : Type 0 where
  -- each slot has the block of an alloca, and no two slots have one block
  pub there : (n : ℕ) → 1 ≤ own n + times_in n xs → IsSlotBlock m n
  pub once : (n : ℕ) → own n + times_in n xs ≤ 1
  -- those of activations weren't killed
  pub fresh : (n : ℕ) → 1 ≤ own n → is_killed_at m n ≡ false
  -- each block of an alloca that wasn't killed is a slot of an activation or an instance
  pub listed : (n : ℕ) (z : MemoryBlock) → slice_get m n ≡ Some z → is_alloca_block z ≡ true
      → is_killed z.life ≡ false → 1 ≤ own n + times_in n xs
  -- slots of an instance that is over were killed
  pub over : (i : ℕ) (x : Instance) → slice_get xs i ≡ Some x → is_over x ≡ true → (n : ℕ) → 1 ≤ times n x.slots
      → is_killed_at m n ≡ true
  -- instances begin in blocks of their own
  pub frames : (i : ℕ) (x : Instance) → slice_get xs i ≡ Some x → IsFrameBlock m x
  pub apart : (i j : ℕ) (x y : Instance) → slice_get xs i ≡ Some x → slice_get xs j ≡ Some y → x.block ≡ y.block
      → i ≡ j

-- no activation was given a frame by its call
abbrev pub AreUngiven : List Activation → Type 0
AreUngiven [] = Unit {0}
AreUngiven (a ∷ below) = ((frame : Value) → a.mode ≡ Mode.GivenRamp frame → ⊥) × AreUngiven below

pub record IsSlottedState (s : State) : Type 0 where
  pub slotted : AreSlotted s.world.memory (times_on (s.top ∷ s.below)) s.instances
  pub ungiven : AreUngiven (s.top ∷ s.below)

-- ---- parts of a step

-- what a part of a step gives, if it gives a state
abbrev pub StaysSlotted : Result State Cause → Type 0
StaysSlotted (Err cause) = Unit {0}
StaysSlotted (Ok s) = IsSlottedState s

-- a state with one slot more, which has still to be placed
pub record HasNewSlot (s : State) (slot : Slot) : Type 0 where
  pub slotted : AreSlotted s.world.memory (λ n. once_if (slot.block == n) + times_on (s.top ∷ s.below) n) s.instances
  pub ungiven : AreUngiven (s.top ∷ s.below)

-- ---- what it asks of hooks

pub record KeepsSlots (h : Hooks) : Type 0 where
  pub go_on : (s : State) (i : ℕ) (x : Instance) (suspend : Point) (values : Env) (label : ℕ) → IsSlottedState s
      → slice_get s.instances i ≡ Some x → IsSlottedState (h.go_on s i x suspend values label)
  pub place : (s : State) (slot : Slot) → HasNewSlot s slot → IsSlottedState (h.place s slot)
  pub start : (s : State) (result : Option ℕ) (memory : Value) → IsSlottedState s
      → StaysSlotted (h.start s result memory)
  pub close : (s : State) → IsSlottedState s → IsSlottedState (h.close s)
  -- no call gives a frame
  pub call : (s : State)
      → h.given_call s (fetch (function_of h.given s) s.top.block s.top.at) ≡ None

-- no call gives a frame: none names a coroutine without its allocation
abbrev pub GivesNoFrames : Module → Type 0
GivesNoFrames m =
    (func block at : ℕ) (result : Option ℕ) (must_tail : Bool) (ty : Option Ty) (n : Name) (args : List Arg)
    → fetch (function_at m func) block at ≡ AtInstr (Instr.Call result must_tail ty (Callee.Named n) args)
    → given_ramp m n ≡ None
