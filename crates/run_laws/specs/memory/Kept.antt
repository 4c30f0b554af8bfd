-- What an operation on the target gives, where the same operation on the source was not refused.
use Rattle.std.specs.Prelude.{ℕ, List, Ok, ◌≡◌}
use Rattle.run_memory.specs.Memory.{Rights, copy, load, store}
use Rattle.run_memory.specs.declared.block.MemoryBlock.{MemoryBlock}
use Rattle.run_memory.specs.declared.pointer.Access.{Access}
use Rattle.run_memory.specs.declared.pointer.Value.{Value}
use Rattle.run_laws.specs.memory.Pointers.{Home, IsValue}
use Rattle.run_laws.specs.memory.Standing.{Embeds}

-- a load from the target gives a value that stands for v
pub record IsLoaded (target : Rights) (homes : List Home) (n : List MemoryBlock) (p : Value) (what : Access) (align : ℕ) (v : Value) : Type 0 where
  pub value : Value
  pub loads : load target n p what align ≡ Ok value
  pub stands : IsValue homes v value

-- a store of v in the target gives a memory in which m stands
pub record IsStored (rights target : Rights) (homes : List Home) (m n : List MemoryBlock) (p v : Value) (what : Access) (align : ℕ) : Type 0 where
  pub memory : List MemoryBlock
  pub stores : store target n p v what align ≡ Ok memory
  pub stands : Embeds rights target homes m memory

-- a copy in the target gives a memory in which m stands
pub record IsCopied (rights target : Rights) (homes : List Home) (m n : List MemoryBlock) (to from : Value) (len : ℕ) : Type 0 where
  pub memory : List MemoryBlock
  pub copies : copy target n to from len ≡ Ok memory
  pub stands : Embeds rights target homes m memory
