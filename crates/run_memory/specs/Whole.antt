-- What every block of a memory keeps.
use Rattle.std.specs.Prelude.{◌≡◌, ℕ, ◌+◌, ◌≤◌, List, length, All, Option, Some, None}
use Rattle.run_memory.specs.declared.block.Life.{Life}
use Rattle.run_memory.specs.declared.block.MemoryBlock.{MemoryBlock}

-- how many bytes a block of a size has
abbrev pub kept_size : Life → ℕ → ℕ
kept_size Life.Live n = n
kept_size Life.Ended n = n
kept_size Life.Killed n = 0

-- a block has as many bytes as its size says, and none when it is killed
pub record IsWhole (x : MemoryBlock) : Type 0 where
  pub full : length x.bytes ≡ kept_size x.life x.size

abbrev pub AreWhole : List MemoryBlock → Type 0
AreWhole m = All IsWhole m

-- there is a block with so many bytes from an offset on
abbrev pub IsWithin : Option MemoryBlock → ℕ → ℕ → Type 0
IsWithin None offset len = ⊥
IsWithin (Some x) offset len = offset + len ≤ length x.bytes
