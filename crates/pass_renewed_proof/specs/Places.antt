-- Where blocks of the source that are made anew stand: a block of the target is their own, stands ready for them, or is given back.
use Rattle.std.specs.Prelude.{ℕ, Bool, true, false, List, slice_get, replicate, Some, None, ◌≡◌, ◌≢◌, ◌≤◌, ◌<◌, ◌^◌, ◌||◌, ◌&&◌, not, ◌==◌, ◌⊎◌, length}
use Rattle.pass_kept_proof.specs.run_memory.Memory.{is_live, may_compare_at, owner_rights, same_kind}
use Rattle.pass_kept_proof.specs.run_memory.Pointers.{moved}
use Rattle.pass_kept_proof.specs.run_memory.declared.pointer.Offset.{Offset}
use Rattle.pass_kept_proof.specs.run_memory.declared.block.Byte.{Byte}
use Rattle.pass_kept_proof.specs.run_memory.declared.block.Kind.{Kind}
use Rattle.pass_kept_proof.specs.run_memory.declared.block.MemoryBlock.{MemoryBlock}
use Rattle.pass_renewed_proof.specs.Small.{small_rights}
use Rattle.run_laws.specs.memory.Pointers.{Home, home_of}
use Rattle.run_laws.specs.memory.Standing.{AreBoundsKept, AreNullsKept, Embeds}

-- a block of undefined bytes
abbrev pub IsBlank : MemoryBlock → Type 0
IsBlank x = x.bytes ≡ replicate x.size Byte.Undefined

-- the target has a live block that nobody owns, with so much room and such an alignment
pub record IsReady (n : List MemoryBlock) (k : ℕ) (x : MemoryBlock) : Type 0 where
  pub block : MemoryBlock
  pub there : slice_get n k ≡ Some block
  pub live : is_live block.life ≡ true
  pub owner : block.owned ≡ None
  pub whole : length block.bytes ≡ block.size
  pub room : x.size ≤ block.size
  pub small : block.size < 2 ^ 64
  pub align : block.align ≡ x.align
  pub writable : same_kind block.kind Kind.Constant ≡ false

-- of the live blocks of the source none but this one stands in that block of the target
pub record IsFree (homes : List Home) (m : List MemoryBlock) (b k : ℕ) : Type 0 where
  pub others : (c : ℕ) (z : MemoryBlock) → c ≢ b → slice_get m c ≡ Some z → is_live z.life ≡ true → (home_of homes c).block ≢ k

-- one block more is hidden, or one less
abbrev pub hiding : (ℕ → Bool) → ℕ → ℕ → Bool
hiding hides b c = hides c || (c == b)

abbrev pub showing : (ℕ → Bool) → ℕ → ℕ → Bool
showing hides b c = hides c && not (c == b)

-- a memory that stands in another one by the rights of owners, with what is asked of pointers into its blocks: they are
-- compared with null at offsets of 64 bits
pub record AreStanding (homes : List Home) (m n : List MemoryBlock) : Type 0 where
  pub memory : Embeds owner_rights owner_rights homes m n
  pub nulls : AreNullsKept small_rights owner_rights homes m n
  pub bounds : AreBoundsKept homes m n

-- a block of the source, to which pointers may be about, may be compared with null wherever it stands
pub record IsComparable (homes : List Home) (n : List MemoryBlock) (b : ℕ) : Type 0 where
  pub each : (o : Offset) → may_compare_at owner_rights (home_of homes b).block (slice_get n (home_of homes b).block) (moved o (home_of homes b).offset) ≡ true

-- each live block of the second is one of the first, as it was there; and each block has the size that it had
pub record HasFewer (homes : List Home) (m k n : List MemoryBlock) : Type 0 where
  pub live : (b : ℕ) (x : MemoryBlock) → slice_get k b ≡ Some x → is_live x.life ≡ true → slice_get m b ≡ Some x
  pub nulls : (b : ℕ) → (home_of homes b).is_seen ≡ true → (slice_get k b ≡ slice_get m b) ⊎ IsComparable homes n b
  pub sizes : (b : ℕ) (x : MemoryBlock) → slice_get k b ≡ Some x → (y : MemoryBlock) × (slice_get m b ≡ Some y) × (y.size ≡ x.size)

-- a home to whose block pointers are no longer about
abbrev pub unseen : Home → Home
unseen q = record q { is_seen = false }
