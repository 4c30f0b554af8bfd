-- What is left to know of a slot where a marker of a coroutine starts or ends it.
use Rattle.std.specs.List.{Contains}
use Rattle.std.specs.Prelude.{◌≡◌, ◌≢◌, ℕ, Bool, None, Some, false, slice_get, true}
use Rattle.compiler_theorem.specs.known.Counts.{own}
use Rattle.compiler_theorem.specs.theorem.Anew.{Anew}
use Rattle.compiler_theorem.specs.theorem.Asked.{asking}
use Rattle.compiler_theorem.specs.theorem.Entries.{Run}
use Rattle.compiler_theorem.specs.theorem.Lowered.{IsLowered, Lowered}
use Rattle.compiler.specs.frame_contents.Held.{position_of}
use Rattle.compiler.specs.pass_copies.declared.slot.EarlySlot.{EarlySlot}
use Rattle.compiler.specs.pass_frames.Tables.{offset_at}
use Rattle.pass_frames_meaning.specs.Executed.{IsFirstMode}
use Rattle.pass_frames_meaning.specs.pass_frames_proof.Marking.{IsTemporaryThere}
use Rattle.pass_frames_meaning.specs.pass_frames_proof.Places.{copies}
use Rattle.pass_frames_meaning.specs.pass_frames_proof.Related.{AreBuiltOf, Building}
use Rattle.pass_frames_meaning.specs.pass_frames_proof.Slotted.{AreRangesApart, HasFrameThere}
use Rattle.compiler.specs.run_memory.Memory.{is_live}
use Rattle.compiler.specs.run_memory.declared.block.MemoryBlock.{MemoryBlock}
use Rattle.compiler.specs.run_source.declared.state.Instance.{Instance}
use Rattle.compiler.specs.run_source.declared.state.State.{State}
use Rattle.compiler.specs.run_step.declared.world.Slot.{Slot}

-- the fields of the instance's other slots that live lie apart from its field
pub record AreSlotsApart (b : Building) (s : State) (x : Instance) (slot : Slot) : Type 0 where
  pub each : (other : Slot) → Contains x.slots other → other.block ≢ slot.block → (z y : MemoryBlock)
      → slice_get s.world.memory other.block ≡ Some z → slice_get s.world.memory slot.block ≡ Some y
      → is_live z.life ≡ true → (p q : ℕ)
      → position_of (b.framing x.coroutine).contents.held other.alloca ≡ Some p
      → position_of (b.framing x.coroutine).contents.held slot.alloca ≡ Some q
      → AreRangesApart (offset_at (b.framing x.coroutine).layout p) z.size
      (offset_at (b.framing x.coroutine).layout q) y.size

-- What is left to know of a state where a marker of a name stands at the place of a coroutine.
pub record AreMarkersLeft (l : Lowered) (low : IsLowered l) (a : Anew) (r : Run) (s t : State)
    (built : AreBuiltOf (asking l low a r).b s t) (name : ℕ) (starts : Bool) : Type 0 where
  pub frame : (number : ℕ) (x : Instance) → slice_get s.instances number ≡ Some x → x.freed ≡ false
      → HasFrameThere (asking l low a r).b s x
  pub apart : starts ≡ true → (number : ℕ) (x : Instance) (slot : Slot) → s.top.instance ≡ Some number
      → slice_get s.instances number ≡ Some x → Contains x.slots slot → slot.alloca ≡ name
      → AreSlotsApart (asking l low a r).b s x slot
  -- before begin the temporary of a slot that is used there
  pub temporaries : (slot : Slot) → s.top.instance ≡ None → Contains s.top.slots slot → slot.alloca ≡ name → (q : ℕ)
      (e : EarlySlot) → Contains (copies ((asking l low a r).b.framing s.top.func)).slots e → e.slot ≡ name
      → Contains t.top.slots (record { alloca = e.temporary; block = q })
      → IsTemporaryThere (asking l low a r).b s t built slot.block q
  -- a resumed activation meets no marker of a ramp slot
  pub first : a.flags s.top.func name ≡ false → own l a r s.top.func name ≡ true → IsFirstMode s.top.mode
