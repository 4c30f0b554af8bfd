-- What is known of the blocks of temporaries in states of the framed run.
use Rattle.std.specs.List.{Contains}
use Rattle.std.specs.Prelude.{◌≡◌, ◌<◌, ◌^◌, ℕ, List, Some, length, slice_get, true}
use Rattle.compiler.specs.pass_copies.declared.slot.EarlySlot.{EarlySlot}
use Rattle.pass_frames_meaning.specs.pass_frames_proof.Places.{copies}
use Rattle.pass_frames_meaning.specs.pass_frames_proof.Related.{Building}
use Rattle.compiler.specs.run_memory.Memory.{is_live}
use Rattle.compiler.specs.run_memory.declared.block.Kind.{Kind}
use Rattle.compiler.specs.run_memory.declared.block.MemoryBlock.{MemoryBlock}
use Rattle.compiler.specs.run_source.declared.state.State.{State}

-- The block of a temporary is a live slot with all its bytes, as large and as aligned as the slot that it stands for.
pub record IsLiveTemporary (e : EarlySlot) (memory : List MemoryBlock) (n : ℕ) : Type 0 where
  pub block : MemoryBlock
  pub there : slice_get memory n ≡ Some block
  pub live : is_live block.life ≡ true
  pub slot : block.kind ≡ Kind.Slot
  pub whole : length block.bytes ≡ block.size
  pub sized : block.size ≡ e.size
  pub aligned : block.align ≡ e.align
  pub small : block.size < 2 ^ 64

-- So are those of all temporaries of the topmost activation: no marker names one (an invariant of framed runs).
pub record AreLiveTemporaries (b : Building) (t : State) : Type 0 where
  pub each : (e : EarlySlot) → Contains (copies (b.framing t.top.func)).slots e → (n : ℕ)
      → Contains t.top.slots (record { alloca = e.temporary; block = n }) → IsLiveTemporary e t.world.memory n
