-- In each state of a run by hooks the frame of each instance that isn't freed is there.
use Rattle.std.specs.Prelude.{◌≡◌, ◌≢◌, ◌≤◌, ℕ, Bool, true, false, List, [], ◌∷◌, slice_get, Some, None, Option}
use Rattle.std.specs.Prelude.{Result, Ok, Err}
use Rattle.pass_frames_proof.specs.ir_base.declared.cause.Cause.{Cause}
use Rattle.pass_frames_proof.specs.ir_base.declared.outcome.Outcome.{Outcome}
use Rattle.pass_frames_proof.specs.ir_model.Names.{function_at}
use Rattle.pass_frames_proof.specs.ir_model.Ty.{Ty}
use Rattle.pass_frames_proof.specs.ir_model.declared.instr.Instr.{Instr}
use Rattle.pass_frames_proof.specs.ir_model.declared.module.Frame.{Frame}
use Rattle.pass_frames_proof.specs.ir_model.declared.module.Function.{Function}
use Rattle.pass_frames_proof.specs.ir_model.declared.module.Module.{Module}
use Rattle.pass_frames_proof.specs.ir_model.declared.operand.Arg.{Arg}
use Rattle.pass_frames_proof.specs.ir_model.declared.operand.Callee.{Callee}
use Rattle.pass_frames_proof.specs.ir_paths.declared.point.Point.{Point}
use Rattle.pass_frames_proof.specs.Marking.{marker}
use Rattle.pass_frames_proof.specs.pass_renewed_proof.SlotRules.{IsMadeOnce}
use Rattle.pass_renewed_meaning.specs.run_hooks.Hooks.{Hooks}
use Rattle.pass_frames_proof.specs.run_memory.Memory.{is_live}
use Rattle.pass_frames_proof.specs.run_memory.declared.block.MemoryBlock.{MemoryBlock}
use Rattle.pass_frames_proof.specs.run_memory.declared.pointer.Value.{Value}
use Rattle.run_slots.specs.Slots.{HasNewSlot, IsSlottedState, KeepsSlots, is_alloca_block}
use Rattle.pass_frames_proof.specs.run_source.State.{function_of}
use Rattle.pass_frames_proof.specs.run_source.declared.state.Activation.{Activation}
use Rattle.pass_frames_proof.specs.run_source.declared.state.Instance.{Instance}
use Rattle.pass_frames_proof.specs.run_source.declared.state.State.{State}
use Rattle.pass_frames_proof.specs.run_source.declared.state.Status.{Status}
use Rattle.pass_frames_proof.specs.run_source_tables.Given.{frame_of}
use Rattle.pass_frames_proof.specs.run_step.Step.{AtInstr, block_of, fetch}
use Rattle.pass_frames_proof.specs.run_step.Values.{Env, arg_values, nth, value_in}
use Rattle.pass_frames_proof.specs.run_step.declared.world.Slot.{Slot}

-- ---- frames

-- the block of an instance is live, is owned to so many bytes, and has them
pub record IsFrameHeld (memory : List MemoryBlock) (size : ℕ) (x : Instance) : Type 0 where
  pub block : MemoryBlock
  pub there : slice_get memory x.block ≡ Some block
  pub live : is_live block.life ≡ true
  pub owned : block.owned ≡ Some size
  pub fits : size ≤ block.size

-- so is that of each instance that isn't freed, with the printed size of its coroutine's frame
abbrev pub AreFramesHeld : List Frame → List MemoryBlock → List Instance → Type 0
AreFramesHeld sizes memory xs =
    (i : ℕ) (x : Instance) → slice_get xs i ≡ Some x → x.freed ≡ false
    → IsFrameHeld memory (frame_of sizes x.coroutine).size x

abbrev pub IsHeldState : List Frame → State → Type 0
IsHeldState sizes s = AreFramesHeld sizes s.world.memory s.instances

-- what a part of a step gives, if it gives a state
abbrev pub StaysHeld : List Frame → Result State Cause → Type 0
StaysHeld sizes (Err cause) = Unit {0}
StaysHeld sizes (Ok s) = IsHeldState sizes s

-- ---- markers

-- where a marker stands that is executed, no frame lies in its block
abbrev pub MarksNoFrame : Hooks → State → Type 0
MarksNoFrame h s =
    s.outcome ≡ Outcome.Running
    → (starts : Bool) (result : Option ℕ) (must_tail : Bool) (ty : Option Ty) (args : List Arg)
    → fetch (function_of h.given s) s.top.block s.top.at
    ≡ AtInstr (Instr.Call result must_tail ty (Callee.Intrinsic (marker starts)) args)
    → h.is_idle s (AtInstr (Instr.Call result must_tail ty (Callee.Intrinsic (marker starts)) args)) ≡ false
    → (b : ℕ) → block_of (nth (arg_values h.given.code s.top.values args) 1) ≡ Some b
    → (i : ℕ) (x : Instance) → slice_get s.instances i ≡ Some x → x.freed ≡ false → x.block ≢ b

-- ---- what it asks of hooks

pub record KeepsHeld (h : Hooks) : Type 0 where
  pub slots : KeepsSlots h
  pub go_on : (s : State) (i : ℕ) (x : Instance) (suspend : Point) (values : Env) (label : ℕ)
      → slice_get s.instances i ≡ Some x → IsHeldState h.given.sizes s
      → IsHeldState h.given.sizes (h.go_on s i x suspend values label)
  pub place : (s : State) (slot : Slot) → HasNewSlot s slot → IsHeldState h.given.sizes s
      → IsHeldState h.given.sizes (h.place s slot)
  pub start : (s : State) (result : Option ℕ) (memory : Value) → IsSlottedState s → IsHeldState h.given.sizes s
      → StaysHeld h.given.sizes (h.start s result memory)
  pub close : (s : State) → IsSlottedState s → IsHeldState h.given.sizes s → IsHeldState h.given.sizes (h.close s)

-- ---- names of allocas

abbrev pub is_alloca_in : Option MemoryBlock → Bool
is_alloca_in None = false
is_alloca_in (Some x) = is_alloca_block x

-- names that an alloca alone gives have no address, or one in an alloca's block
abbrev pub AreAllocas : List MemoryBlock → Function → Env → Type 0
AreAllocas memory f values =
    (v b : ℕ) → IsMadeOnce f v → block_of (value_in values v) ≡ Some b → is_alloca_in (slice_get memory b) ≡ true

abbrev pub AreAllocasOn : Module → List MemoryBlock → List Activation → Type 0
AreAllocasOn m memory [] = Unit {0}
AreAllocasOn m memory (a ∷ below) = AreAllocas memory (function_at m a.func) a.values × AreAllocasOn m memory below

-- so have those that are kept
abbrev pub AreAllocasAsleep : List MemoryBlock → Function → Status → Type 0
AreAllocasAsleep memory f (Status.Suspended u values) = AreAllocas memory f values
AreAllocasAsleep memory f _ = Unit {0}

abbrev pub AreAllocasIn : Module → List MemoryBlock → List Instance → Type 0
AreAllocasIn m memory xs =
    (i : ℕ) (x : Instance) → slice_get xs i ≡ Some x
    → AreAllocasAsleep memory (function_at m x.coroutine) x.status

abbrev pub HasAllocas : Module → State → Type 0
HasAllocas m s = AreAllocasOn m s.world.memory (s.top ∷ s.below) × AreAllocasIn m s.world.memory s.instances

abbrev pub StaysAllocas : Module → Result State Cause → Type 0
StaysAllocas m (Err cause) = Unit {0}
StaysAllocas m (Ok s) = HasAllocas m s

-- it is the name of no alloca
abbrev pub IsNoAlloca : Function → Option ℕ → Type 0
IsNoAlloca f result = (v : ℕ) → IsMadeOnce f v → result ≡ Some v → ⊥

pub record KeepsAllocas (h : Hooks) : Type 0 where
  pub go_on : (s : State) (i : ℕ) (x : Instance) (suspend : Point) (values : Env) (label : ℕ)
      → HasAllocas h.given.code s → slice_get s.instances i ≡ Some x → x.status ≡ Status.Suspended suspend values
      → HasAllocas h.given.code (h.go_on s i x suspend values label)
  pub place : (s : State) (slot : Slot) → HasAllocas h.given.code s → HasAllocas h.given.code (h.place s slot)
  pub start : (s : State) (result : Option ℕ) (memory : Value) → HasAllocas h.given.code s
      → IsNoAlloca (function_of h.given s) result → StaysAllocas h.given.code (h.start s result memory)
  pub close : (s : State) → HasAllocas h.given.code s → HasAllocas h.given.code (h.close s)
  -- the activations stay as they are
  pub closed : (s : State) → ((h.close s).top ≡ s.top) × ((h.close s).below ≡ s.below)
  -- no call gives a frame
  pub ungiven : (s : State) (block at : ℕ) → h.given_call s (fetch (function_of h.given s) block at) ≡ None
