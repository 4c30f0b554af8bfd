-- Memories that differ in what bytes hold.
use Rattle.std.specs.Prelude.{ℕ, List, slice_get, Some, None, Option, ◌≡◌}
use Rattle.run_memory.specs.declared.block.MemoryBlock.{MemoryBlock}
use Rattle.run_step.specs.Step.{Action, Done, NewSlot}

abbrev pub IsRefilled : Option MemoryBlock → Option MemoryBlock → Type 0
IsRefilled None None = Unit {0}
IsRefilled None (Some y) = ⊥
IsRefilled (Some x) None = ⊥
IsRefilled (Some x) (Some y) = y ≡ record x { bytes = y.bytes }

-- block by block
pub record AreRefilled (m k : List MemoryBlock) : Type 0 where
  pub each : (b : ℕ) → IsRefilled (slice_get m b) (slice_get k b)

-- what is done changes no more than what bytes hold
abbrev pub OnlyRefills : List MemoryBlock → Action → Type 0
OnlyRefills m (Done w) = AreRefilled m w.world.memory
OnlyRefills m (NewSlot w slot) = ⊥
OnlyRefills m _ = Unit {0}
