-- Rights that change, over a source memory and over a target memory in which it stands.
use Rattle.std.specs.Prelude.{ℕ, true, List, slice_get, Some, None, Option, ◌+◌, ◌<◌, ◌≡◌, ◌≢◌, ◌⊎◌}
use Rattle.run_memory.specs.Memory.{Rights, is_live}
use Rattle.run_memory.specs.declared.block.Byte.{Byte}
use Rattle.run_memory.specs.declared.block.MemoryBlock.{MemoryBlock}
use Rattle.run_laws.specs.memory.Pointers.{Home, home_of}
use Rattle.run_laws.specs.memory.Standing.{HasRights, IsOpen, byte_of}
use Rattle.run_step.specs.declared.world.World.{World}
use Rattle.run_laws.specs.access.Changed.{home_block}

-- blocks that differ in who owns them
abbrev pub IsReowned : Option MemoryBlock → Option MemoryBlock → Type 0
IsReowned None None = Unit {0}
IsReowned None (Some y) = ⊥
IsReowned (Some x) None = ⊥
IsReowned (Some x) (Some y) = y ≡ record x { owned = y.owned }

-- block by block
pub record AreReowned (m k : List MemoryBlock) : Type 0 where
  pub each : (b : ℕ) → IsReowned (slice_get m b) (slice_get k b)

-- no other live block of the source has a byte that its program may touch where the block has the one at an offset
abbrev pub IsApartFrom : Rights → List Home → List MemoryBlock → (b i : ℕ) → Type 0
IsApartFrom rights homes k b i = (c j : ℕ) (z : MemoryBlock) → c ≢ b → slice_get k c ≡ Some z → is_live z.life ≡ true → j < z.size → IsOpen rights c z j → home_block homes c ≡ home_block homes b → (home_of homes b).offset + i ≢ (home_of homes c).offset + j

-- nor a place at which pointers may be compared
abbrev pub IsOnlyPlace : Rights → List Home → List MemoryBlock → (b i : ℕ) → Type 0
IsOnlyPlace rights homes k b i = (c j : ℕ) (z : MemoryBlock) → c ≢ b → slice_get k c ≡ Some z → is_live z.life ≡ true → j < z.size → rights.is_comparable c z j ≡ true → home_block homes c ≡ home_block homes b → (home_of homes b).offset + i ≢ (home_of homes c).offset + j

-- The source's rights become others, and its memory m becomes k, the target's l. What may be touched from now on might
-- be before, or it holds nothing and lies apart from all others; so for comparisons. The target's new rights allow it.
pub record MayTurn (before after target : Rights) (homes : List Home) (m k l : List MemoryBlock) : Type 0 where
  pub opens : (b i : ℕ) (x y : MemoryBlock) → slice_get m b ≡ Some x → slice_get k b ≡ Some y → is_live x.life ≡ true → i < x.size → IsOpen after b y i → IsOpen before b x i ⊎ ((byte_of x i ≡ Byte.Undefined) × IsApartFrom after homes k b i)
  pub compares : (b i : ℕ) (x y : MemoryBlock) → slice_get m b ≡ Some x → slice_get k b ≡ Some y → is_live x.life ≡ true → i < x.size → after.is_comparable b y i ≡ true → (before.is_comparable b x i ≡ true) ⊎ IsOnlyPlace after homes k b i
  pub allowed : (b : ℕ) (x y : MemoryBlock) → slice_get k b ≡ Some x → is_live x.life ≡ true → slice_get l (home_block homes b) ≡ Some y → HasRights after target (home_of homes b) b x y

abbrev pub with_blocks : World → List MemoryBlock → World
with_blocks s k = record s { memory = k }
