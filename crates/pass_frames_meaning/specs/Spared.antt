-- What is known of the frames of suspended instances: they are owned, and fields of what crosses lie apart from live slots.
use Rattle.std.specs.List.{Contains}
use Rattle.std.specs.Prelude.{◌≡◌, ◌+◌, ◌≤◌, ℕ, None, Some, false, true, slice_get}
use Rattle.pass_frames_proof.specs.flow_solver.Paths.{IsListed}
use Rattle.pass_frames_proof.specs.frame_contents.Held.{position_of}
use Rattle.pass_frames_proof.specs.ir_paths.declared.point.Point.{Point}
use Rattle.pass_frames_proof.specs.pass_cells.declared.plan.KeptValue.{KeptValue}
use Rattle.pass_frames_proof.specs.pass_fetch.Fetching.{value_bytes}
use Rattle.pass_frames_proof.specs.pass_frames.Tables.{offset_at}
use Rattle.pass_frames_proof.specs.Related.{Building, IsKeptValue, IsSuspendNumber, is_coroutine, returned_from}
use Rattle.pass_frames_proof.specs.Slotted.{AreRangesApart, HasFrameThere}
use Rattle.pass_frames_proof.specs.run_framed.Framed.{layout_of}
use Rattle.pass_frames_proof.specs.run_memory.Memory.{is_live}
use Rattle.pass_frames_proof.specs.run_memory.declared.block.MemoryBlock.{MemoryBlock}
use Rattle.pass_frames_proof.specs.run_source.declared.state.Activation.{Activation}
use Rattle.pass_frames_proof.specs.run_source.declared.state.Instance.{Instance}
use Rattle.pass_frames_proof.specs.run_source.declared.state.State.{State}
use Rattle.pass_frames_proof.specs.run_source.declared.state.Status.{Status}
use Rattle.pass_frames_proof.specs.run_step.Values.{Env}
use Rattle.pass_frames_proof.specs.run_step.declared.world.Slot.{Slot}

-- the field of a value that crosses a suspend of a coroutine, by its number
pub record HasFieldAt (b : Building) (func suspend v position : ℕ) (k : KeptValue) : Type 0 where
  pub kept : IsKeptValue (b.framing func) v k
  pub crosses : Contains (b.framing func).contents.crossing (v, suspend)
  pub placed : position_of (b.framing func).contents.held v ≡ Some position

-- Good layouts put each field into the frame. A live slot conflicts with what crosses the suspend at which its instance
-- is (`LiveAreApart`), so their fields lie apart.
pub record AreFieldsApart (b : Building) (s : State) : Type 0 where
  pub frames : (i : ℕ) (x : Instance) → slice_get s.instances i ≡ Some x → x.freed ≡ false → (p : Point) (env : Env)
      → x.status ≡ Status.Suspended p env → HasFrameThere b s x
  pub inside : (func suspend v position : ℕ) (k : KeptValue) → is_coroutine b func ≡ true
      → HasFieldAt b func suspend v position k
      → offset_at (b.framing func).layout position + value_bytes k.field_ty ≤ (layout_of b.given.layouts func).size
  pub apart : (i : ℕ) (x : Instance) → slice_get s.instances i ≡ Some x → x.freed ≡ false → (p : Point) (env : Env)
      → x.status ≡ Status.Suspended p env → (suspend v position : ℕ) (k : KeptValue)
      → IsSuspendNumber (b.framing x.coroutine) suspend p → HasFieldAt b x.coroutine suspend v position k
      → (slot : Slot) (z : MemoryBlock) (place : ℕ) → Contains x.slots slot
      → slice_get s.world.memory slot.block ≡ Some z → is_live z.life ≡ true
      → position_of (b.framing x.coroutine).contents.held slot.alloca ≡ Some place
      → AreRangesApart (offset_at (b.framing x.coroutine).layout place) z.size
      (offset_at (b.framing x.coroutine).layout position) (value_bytes k.field_ty)

-- no activation below stands in a block on a resume or destroy edge, in which there is no call
abbrev pub HasNoReturnsBelow : Building → State → Type 0
HasNoReturnsBelow b s = (a : Activation) → IsListed a s.below → is_coroutine b a.func ≡ true
    → returned_from (b.framing a.func) a a.mode ≡ None
