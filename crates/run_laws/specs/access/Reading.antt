-- What a step reads: memories that differ only in what bytes of other blocks hold.
use Rattle.std.specs.Prelude.{ℕ, List, slice_get, ◌≡◌}
use Rattle.run_memory.specs.declared.block.MemoryBlock.{MemoryBlock}
use Rattle.run_step.specs.Step.{Action, Done, NewSlot, set_memory}
use Rattle.run_laws.specs.embedded.Refilled.{AreRefilled}
use Rattle.run_laws.specs.changed.Changed.{Each}

-- these blocks are the same in both
abbrev pub AreSame : List ℕ → List MemoryBlock → List MemoryBlock → Type 0
AreSame blocks m k = Each (λ (b : ℕ). slice_get k b ≡ slice_get m b) blocks

-- the memories differ in nothing but what bytes of other blocks hold
pub record DifferBut (blocks : List ℕ) (m k : List MemoryBlock) : Type 0 where
  pub refilled : AreRefilled m k
  pub same : AreSame blocks m k

-- the same is done, and leaves these blocks the same
abbrev pub DoesSame : List ℕ → Action → Action → Type 0
DoesSame blocks (Done w) a = (l : List MemoryBlock) × ((a ≡ Done (set_memory w l)) × AreSame blocks w.world.memory l)
DoesSame blocks (NewSlot w slot) a = (l : List MemoryBlock) × ((a ≡ NewSlot (set_memory w l) slot) × AreSame blocks w.world.memory l)
DoesSame blocks b a = a ≡ b
