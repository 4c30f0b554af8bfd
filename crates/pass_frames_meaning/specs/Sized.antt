-- In each state of a run that makes slots anew the block of a slot is as large and as aligned as its alloca says.
use Rattle.std.specs.Prelude.{◌≡◌, ℕ, List, [], ◌∷◌, map, slice_get, Some, Option, Result, Ok, Err}
use Rattle.pass_frames_proof.specs.ir_base.declared.cause.Cause.{Cause}
use Rattle.pass_frames_proof.specs.ir_model.Layout.{size_of}
use Rattle.pass_frames_proof.specs.ir_model.Names.{function_at}
use Rattle.pass_frames_proof.specs.ir_model.Ty.{Ty}
use Rattle.pass_frames_proof.specs.ir_model.declared.instr.Instr.{Instr}
use Rattle.pass_frames_proof.specs.ir_model.declared.module.Function.{Function}
use Rattle.pass_frames_proof.specs.ir_model.declared.module.Module.{Module}
use Rattle.pass_frames_proof.specs.ir_paths.declared.point.Point.{Point}
use Rattle.pass_renewed_meaning.specs.run_hooks.Hooks.{Hooks}
use Rattle.pass_renewed_meaning.specs.run_hooks.Reached.{IsReachedState}
use Rattle.pass_frames_proof.specs.run_memory.declared.block.MemoryBlock.{MemoryBlock}
use Rattle.pass_frames_proof.specs.run_memory.declared.pointer.Value.{Value}
use Rattle.pass_frames_proof.specs.run_source.State.{function_of}
use Rattle.pass_frames_proof.specs.run_source.declared.state.Activation.{Activation}
use Rattle.pass_frames_proof.specs.run_source.declared.state.Instance.{Instance}
use Rattle.pass_frames_proof.specs.run_source.declared.state.State.{State}
use Rattle.pass_frames_proof.specs.run_step.Step.{AtInstr, Fetched, fetch}
use Rattle.pass_frames_proof.specs.run_step.Values.{Env}
use Rattle.pass_frames_proof.specs.run_step.declared.world.Slot.{Slot}

-- ---- what holds of each slot of a state, by the function of its activation or instance

abbrev pub AreSlotwise : (Function → Slot → Type 0) → Function → List Slot → Type 0
AreSlotwise W f [] = Unit {0}
AreSlotwise W f (s ∷ ss) = W f s × AreSlotwise W f ss

abbrev pub AreSlotwiseOn : (Function → Slot → Type 0) → Module → List Activation → Type 0
AreSlotwiseOn W m [] = Unit {0}
AreSlotwiseOn W m (a ∷ below) = AreSlotwise W (function_at m a.func) a.slots × AreSlotwiseOn W m below

abbrev pub AreSlotwiseIn : (Function → Slot → Type 0) → Module → List Instance → Type 0
AreSlotwiseIn W m [] = Unit {0}
AreSlotwiseIn W m (x ∷ xs) = AreSlotwise W (function_at m x.coroutine) x.slots × AreSlotwiseIn W m xs

pub record IsSlotwise (W : Function → Slot → Type 0) (m : Module) (s : State) : Type 0 where
  pub stack : AreSlotwiseOn W m (s.top ∷ s.below)
  pub instances : AreSlotwiseIn W m s.instances

-- what a part of a step gives, if it gives a state
abbrev pub StaysSlotwise : (Function → Slot → Type 0) → Module → Result State Cause → Type 0
StaysSlotwise W m (Err cause) = Unit {0}
StaysSlotwise W m (Ok s) = IsSlotwise W m s

-- what it asks of hooks
pub record KeepsSlotwise (W : Function → Slot → Type 0) (h : Hooks) : Type 0 where
  pub go_on : (s : State) (i : ℕ) (x : Instance) (suspend : Point) (values : Env) (label : ℕ)
      → IsSlotwise W h.given.code s → slice_get s.instances i ≡ Some x
      → IsSlotwise W h.given.code (h.go_on s i x suspend values label)
  pub place : (s : State) (slot : Slot) → IsReachedState h.given s → W (function_of h.given s) slot
      → IsSlotwise W h.given.code s → IsSlotwise W h.given.code (h.place s slot)
  pub start : (s : State) (result : Option ℕ) (memory : Value) → IsSlotwise W h.given.code s
      → StaysSlotwise W h.given.code (h.start s result memory)
  pub close : (s : State) → IsSlotwise W h.given.code s → IsSlotwise W h.given.code (h.close s)
  pub call : (s : State) (x : Fetched) (r : Result State Cause) → h.given_call s x ≡ Some r
      → IsSlotwise W h.given.code s → StaysSlotwise W h.given.code r

-- ---- sizes and alignments of blocks

abbrev pub sizes_of : List MemoryBlock → List (ℕ × ℕ)
sizes_of memory = map (λ (x : MemoryBlock). (x.size, x.align)) memory

-- a block keeps them for good
pub record IsLonger (old now : List (ℕ × ℕ)) : Type 0 where
  pub each : (n : ℕ) (x : ℕ × ℕ) → slice_get old n ≡ Some x → slice_get now n ≡ Some x

abbrev pub StaysLonger : List (ℕ × ℕ) → Result State Cause → Type 0
StaysLonger old (Err cause) = Unit {0}
StaysLonger old (Ok s) = IsLonger old (sizes_of s.world.memory)

pub record KeepsSizes (h : Hooks) : Type 0 where
  pub go_on : (s : State) (i : ℕ) (x : Instance) (suspend : Point) (values : Env) (label : ℕ)
      → IsLonger (sizes_of s.world.memory) (sizes_of (h.go_on s i x suspend values label).world.memory)
  pub place : (s : State) (slot : Slot) → IsLonger (sizes_of s.world.memory) (sizes_of (h.place s slot).world.memory)
  pub start : (s : State) (result : Option ℕ) (memory : Value)
      → StaysLonger (sizes_of s.world.memory) (h.start s result memory)
  pub close : (s : State) → IsLonger (sizes_of s.world.memory) (sizes_of (h.close s).world.memory)
  pub call : (s : State) (x : Fetched) (r : Result State Cause) → h.given_call s x ≡ Some r
      → StaysLonger (sizes_of s.world.memory) r

-- ---- slots

-- the slot is that of an alloca of the function, and its block has the alloca's size and alignment
pub record IsSizedAt (m : Module) (sizes : List (ℕ × ℕ)) (f : Function) (slot : Slot) : Type 0 where
  pub block : ℕ
  pub at : ℕ
  pub ty : Ty
  pub align : ℕ
  pub stands : fetch f block at ≡ AtInstr (Instr.Alloca slot.alloca ty align)
  pub sized : slice_get sizes slot.block ≡ Some (size_of m ty, align)

abbrev pub IsSizedState : Module → State → Type 0
IsSizedState m s = IsSlotwise (IsSizedAt m (sizes_of s.world.memory)) m s
