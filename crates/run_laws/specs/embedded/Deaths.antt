-- Deallocation, over a source memory and over a target memory in which it stands.
use Rattle.std.specs.Prelude.{ℕ, true, false, List, slice_get, Ok, Err, Result, ◌≡◌}
use Rattle.run_memory.specs.Memory.{Rights, is_owned, is_unkilled}
use Rattle.run_memory.specs.declared.block.Kind.{Kind}
use Rattle.run_memory.specs.declared.block.MemoryBlock.{MemoryBlock}
use Rattle.run_memory.specs.declared.pointer.Pointer.{Pointer}
use Rattle.run_memory.specs.declared.pointer.Value.{Value}
use Rattle.ir_base.specs.declared.cause.Cause.{Cause}
use Rattle.run_laws.specs.memory.Pointers.{Home, home_of}
use Rattle.run_step.specs.Step.{Work, set_memory}
use Rattle.run_step.specs.declared.world.Slot.{Slot}
use Rattle.run_laws.specs.embedded.Marks.{LivesAlone}
use Rattle.run_laws.specs.embedded.Related.{AreWorks}

-- no other block that lives stands in the block's home; it stands there from the start on, and the home is of an allocator too, and owned only where the block is
pub record DiesToo (homes : List Home) (m n : List MemoryBlock) (b : ℕ) : Type 0 where
  pub alone : LivesAlone homes m b
  pub start : (home_of homes b).offset ≡ 0
  pub unkilled : is_unkilled Kind.Allocator (slice_get m b) ≡ true → is_unkilled Kind.Allocator (slice_get n (home_of homes b).block) ≡ true
  pub free : is_owned (slice_get m b) ≡ false → is_owned (slice_get n (home_of homes b).block) ≡ false

abbrev pub MayDie : List Home → List MemoryBlock → List MemoryBlock → Value → Type 0
MayDie homes m n (Value.Ptr (Pointer.At b o)) = DiesToo homes m n b
MayDie homes m n _ = Unit {0}

-- the target deallocates too, unless the source is undefined
abbrev pub IsDeallocated : Rights → Rights → List Home → (ℕ → ℕ) → Work → Work → Result (List MemoryBlock) Cause → Result (List MemoryBlock) Cause → Type 0
IsDeallocated rights target homes moves w x (Err cause) r = Unit {0}
IsDeallocated rights target homes moves w x (Ok m) r = (n : List MemoryBlock) × (r ≡ Ok n) × AreWorks rights target homes moves (set_memory w m) (set_memory x n)

-- the slot of the target for a slot of the source
abbrev pub moved_slot : List Home → Slot → Slot
moved_slot homes s = record { alloca = s.alloca; block = (home_of homes s.block).block }
