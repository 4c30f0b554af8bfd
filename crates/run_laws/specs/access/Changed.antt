-- What a step leaves as it is.
use Rattle.std.specs.Prelude.{ℕ, List, length, get_or, slice_get, Some, Ok, true, ◌+◌, ◌<◌, ◌≤◌, ◌≡◌, ◌≢◌, ◌⊎◌}
use Rattle.run_memory.specs.Memory.{Rights, bytes_in, is_live}
use Rattle.run_memory.specs.declared.block.Byte.{Byte}
use Rattle.run_memory.specs.declared.block.MemoryBlock.{MemoryBlock}
use Rattle.run_memory.specs.declared.pointer.Value.{Value}
use Rattle.run_laws.specs.memory.Pointers.{Home, home_of}
use Rattle.run_laws.specs.memory.Standing.{IsOpen}
use Rattle.run_step.specs.Step.{Action, Deallocate, Done, NewSlot, Stuck, deallocated}
use Rattle.run_laws.specs.access.Accessed.{Span}
use Rattle.run_laws.specs.embedded.Refilled.{AreRefilled}
use Rattle.run_laws.specs.changed.Changed.{Each}

-- ---- one side

abbrev pub IsNoneOf : ℕ → List ℕ → Type 0
IsNoneOf b blocks = Each (λ (a : ℕ). b ≢ a) blocks

-- no block but these is another
pub record ChangesOnly (blocks : List ℕ) (m k : List MemoryBlock) : Type 0 where
  pub others : (b : ℕ) → IsNoneOf b blocks → slice_get k b ≡ slice_get m b

-- what comes of a step changes no block but these; a deallocation is done by the meaning
abbrev pub LeavesOthers : List ℕ → List MemoryBlock → Action → Type 0
LeavesOthers blocks m (Done w) = ChangesOnly blocks m w.world.memory
LeavesOthers blocks m (NewSlot w slot) = ChangesOnly blocks m w.world.memory
LeavesOthers blocks m (Deallocate p) = (k : List MemoryBlock) → deallocated m p ≡ Ok k → ChangesOnly blocks m k
LeavesOthers blocks m _ = Unit {0}

-- the byte of a memory's block at an offset
abbrev pub byte_in : List MemoryBlock → (block at : ℕ) → Byte
byte_in m block at = get_or (bytes_in (slice_get m block)) at Byte.Undefined

-- where the block lives it has all its bytes
abbrev pub IsFull : List MemoryBlock → ℕ → Type 0
IsFull m b = (x : MemoryBlock) → slice_get m b ≡ Some x → is_live x.life ≡ true → length x.bytes ≡ x.size

-- the byte isn't among those from an offset of a block on
abbrev pub IsOutside : (block at : ℕ) → Span → Type 0
IsOutside block at s = block ≡ s.block → (at < s.offset) ⊎ (s.offset + s.len ≤ at)

-- nothing is another but bytes in these ranges
pub record WritesOnly (spans : List Span) (m k : List MemoryBlock) : Type 0 where
  pub refilled : AreRefilled m k
  pub lengths : (b : ℕ) → length (bytes_in (slice_get k b)) ≡ length (bytes_in (slice_get m b))
  pub others : (b i : ℕ) → Each (IsOutside b i) spans → byte_in k b i ≡ byte_in m b i

abbrev pub LeavesBytes : List Span → List MemoryBlock → Action → Type 0
LeavesBytes spans m (Done w) = WritesOnly spans m w.world.memory
LeavesBytes spans m (NewSlot w slot) = ⊥
LeavesBytes spans m _ = Unit {0}

-- ---- a source and a target in which it stands

-- a step that isn't undefined; poison can't be deallocated
abbrev pub IsDefined : Action → Type 0
IsDefined (Stuck cause) = ⊥
IsDefined (Deallocate Value.Poison) = ⊥
IsDefined _ = Unit {0}

abbrev pub home_block : List Home → ℕ → ℕ
home_block homes b = (home_of homes b).block

-- no byte of a live block of the source that its program may touch has the target's byte for its home
pub record IsFree (rights : Rights) (homes : List Home) (m : List MemoryBlock) (block at : ℕ) : Type 0 where
  pub each : (b j : ℕ) (z : MemoryBlock) → slice_get m b ≡ Some z → is_live z.life ≡ true → j < z.size → IsOpen rights b z j → home_block homes b ≡ block → (home_of homes b).offset + j ≢ at

-- what is free in the target keeps what it holds
pub record KeepsFree (rights : Rights) (homes : List Home) (m n k : List MemoryBlock) : Type 0 where
  pub refilled : AreRefilled n k
  pub lengths : (b : ℕ) → length (bytes_in (slice_get k b)) ≡ length (bytes_in (slice_get n b))
  pub bytes : (block at : ℕ) → IsFree rights homes m block at → byte_in k block at ≡ byte_in n block at

abbrev pub LeavesFree : Rights → List Home → List MemoryBlock → List MemoryBlock → Action → Type 0
LeavesFree rights homes m n (Done x) = KeepsFree rights homes m n x.world.memory
LeavesFree rights homes m n (NewSlot x slot) = ⊥
LeavesFree rights homes m n _ = Unit {0}
