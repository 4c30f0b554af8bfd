-- What is known of blocks where one is given back.
use Rattle.std.specs.List.{Contains}
use Rattle.std.specs.Prelude.{◌≡◌, ◌∷◌, ℕ, Some, None, false, true, slice_get}
use Rattle.pass_frames_proof.specs.flow_solver.Paths.{IsListed}
use Rattle.pass_frames_proof.specs.Related.{Building, is_coroutine, returned_from}
use Rattle.pass_frames_proof.specs.run_memory.Memory.{is_owned, same_kind}
use Rattle.pass_frames_proof.specs.run_memory.declared.block.Kind.{Kind}
use Rattle.pass_frames_proof.specs.run_memory.declared.block.MemoryBlock.{MemoryBlock}
use Rattle.pass_frames_proof.specs.run_source.declared.state.Activation.{Activation}
use Rattle.pass_frames_proof.specs.run_source.declared.state.Instance.{Instance}
use Rattle.pass_frames_proof.specs.run_source.declared.state.State.{State}
use Rattle.pass_frames_proof.specs.run_step.declared.world.Slot.{Slot}

-- An instance owns its block until that is freed. Each state of the first run has this (`IsFrameBlock`).
pub record AreFramesOwned (s : State) : Type 0 where
  pub each : (i : ℕ) (x : Instance) → slice_get s.instances i ≡ Some x → x.freed ≡ false
      → is_owned (slice_get s.world.memory x.block) ≡ true

-- No slot of an activation has the block of an allocator. Each state of the framed run has this (`IsSlotBlock`).
pub record HasNoHeapSlots (t : State) : Type 0 where
  pub each : (a : Activation) → IsListed a (t.top ∷ t.below) → (slot : Slot) → Contains a.slots slot
      → (z : MemoryBlock) → slice_get t.world.memory slot.block ≡ Some z → same_kind z.kind Kind.Allocator ≡ false

-- no activation stands in a block on a resume or destroy edge
abbrev pub HasNoReturns : Building → State → Type 0
HasNoReturns b s = (a : Activation) → IsListed a (s.top ∷ s.below) → is_coroutine b a.func ≡ true
    → returned_from (b.framing a.func) a a.mode ≡ None
