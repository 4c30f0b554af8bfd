-- A source memory that stands in a target memory.
use Rattle.std.specs.Prelude.{ℕ, zero, suc, true, false, List, [], ◌∷◌, length, get_or, replicate, slice_get, Some, None, ◌+◌, ◌^◌, ◌<◌, ◌≤◌, ◌≡◌, ◌≢◌, ◌⊎◌}
use Rattle.run_memory.specs.Memory.{Rights, is_live, may_compare_at, same_kind}
use Rattle.run_memory.specs.Pointers.{moved}
use Rattle.run_memory.specs.declared.block.Byte.{Byte}
use Rattle.run_memory.specs.declared.block.Kind.{Kind}
use Rattle.run_memory.specs.declared.block.Life.{Life}
use Rattle.run_memory.specs.declared.block.MemoryBlock.{MemoryBlock}
use Rattle.run_memory.specs.declared.pointer.Offset.{Offset}
use Rattle.run_memory.specs.declared.pointer.Pointer.{Pointer}
use Rattle.run_laws.specs.memory.Pointers.{Home, IsByte, home_of}

abbrev pub IsAlignment : ℕ → Type 0
IsAlignment n = (n ≡ 1) ⊎ ((n ≡ 2) ⊎ ((n ≡ 4) ⊎ ((n ≡ 8) ⊎ (n ≡ 16))))

-- the byte of a block at an offset
abbrev pub byte_of : MemoryBlock → ℕ → Byte
byte_of x i = get_or x.bytes i Byte.Undefined

-- the program may touch the byte at an offset
abbrev pub IsOpen : Rights → ℕ → MemoryBlock → ℕ → Type 0
IsOpen rights b x i = rights.is_closed b x i 1 ≡ false

-- rights that say of each range no more than of its bytes, and that don't look at what the bytes hold
pub record AreByteRights (rights : Rights) : Type 0 where
  pub bytes : (b : ℕ) (x : MemoryBlock) (o len i : ℕ) → rights.is_closed b x o len ≡ false → o ≤ i → i < o + len → IsOpen rights b x i
  pub closed : (b : ℕ) (x : MemoryBlock) (bytes : List Byte) (o len : ℕ) → rights.is_closed b (record x { bytes = bytes }) o len ≡ rights.is_closed b x o len
  pub aligned : (b : ℕ) (x : MemoryBlock) (bytes : List Byte) (o align : ℕ) → rights.is_aligned b (record x { bytes = bytes }) o align ≡ rights.is_aligned b x o align
  pub comparable : (b : ℕ) (x : MemoryBlock) (bytes : List Byte) (o : ℕ) → rights.is_comparable b (record x { bytes = bytes }) o ≡ rights.is_comparable b x o

-- what an access may do with the source's block it may do with the target's, from the home's offset on; alignments matter where there is a byte that may be touched
pub record HasRights (rights target : Rights) (h : Home) (b : ℕ) (x y : MemoryBlock) : Type 0 where
  pub opens : (o len : ℕ) → o + len ≤ x.size → rights.is_closed b x o len ≡ false → target.is_closed h.block y (h.offset + o) len ≡ false
  pub aligned : (o len align : ℕ) → 0 < len → o + len ≤ x.size → rights.is_closed b x o len ≡ false → IsAlignment align → rights.is_aligned b x o align ≡ true → target.is_aligned h.block y (h.offset + o) align ≡ true
  pub comparable : (o : ℕ) → o ≤ x.size → rights.is_comparable b x o ≡ true → target.is_comparable h.block y (h.offset + o) ≡ true

-- the live block b of the source stands at its home
pub record Stands (rights target : Rights) (homes : List Home) (n : List MemoryBlock) (b : ℕ) (x : MemoryBlock) : Type 0 where
  pub known : b < length homes
  pub block : MemoryBlock
  pub there : slice_get n (home_of homes b).block ≡ Some block
  pub live : is_live block.life ≡ true
  pub full : length x.bytes ≡ x.size
  pub whole : length block.bytes ≡ block.size
  pub fits : (home_of homes b).offset + x.size ≤ block.size
  pub small : block.size < 2 ^ 64
  pub writable : same_kind x.kind Kind.Constant ≡ false → same_kind block.kind Kind.Constant ≡ false
  pub allowed : HasRights rights target (home_of homes b) b x block
  pub bytes : (i : ℕ) → i < x.size → IsOpen rights b x i → IsByte homes (byte_of x i) (byte_of block ((home_of homes b).offset + i))

-- two blocks of the source have no byte in common that the program may touch, nor a place at which pointers may be compared
pub record AreApart (rights : Rights) (h k : Home) (b c : ℕ) (x y : MemoryBlock) : Type 0 where
  pub bytes : (i j : ℕ) → i < x.size → j < y.size → IsOpen rights b x i → IsOpen rights c y j → h.offset + i ≢ k.offset + j
  pub places : (i j : ℕ) → i < x.size → j < y.size → rights.is_comparable b x i ≡ true → rights.is_comparable c y j ≡ true → h.offset + i ≢ k.offset + j

-- each live block of the source stands in the target, and they stand apart
pub record Embeds (rights target : Rights) (homes : List Home) (m n : List MemoryBlock) : Type 0 where
  pub each : (b : ℕ) (x : MemoryBlock) → slice_get m b ≡ Some x → is_live x.life ≡ true → Stands rights target homes n b x
  pub apart : (b c : ℕ) (x y : MemoryBlock) → b ≢ c → slice_get m b ≡ Some x → slice_get m c ≡ Some y → is_live x.life ≡ true → is_live y.life ≡ true → (home_of homes b).block ≡ (home_of homes c).block → AreApart rights (home_of homes b) (home_of homes c) b c x y

-- there is a block with so many bytes from the home's offset on
pub record HasBounds (n : List MemoryBlock) (h : Home) (size : ℕ) : Type 0 where
  pub block : MemoryBlock
  pub there : slice_get n h.block ≡ Some block
  pub fits : h.offset + size ≤ block.size
  pub small : block.size < 2 ^ 64

-- a pointer that may be compared with null may be compared so where it was moved to, whatever became of its block
pub record AreNullsKept (rights target : Rights) (homes : List Home) (m n : List MemoryBlock) : Type 0 where
  pub each : (b : ℕ) (o : Offset) → (home_of homes b).is_seen ≡ true → may_compare_at rights b (slice_get m b) o ≡ true → may_compare_at target (home_of homes b).block (slice_get n (home_of homes b).block) (moved o (home_of homes b).offset) ≡ true

-- no byte of the block that the program may touch stands where so many bytes of the target are written
abbrev pub IsAway : Rights → List Home → ℕ → MemoryBlock → ℕ → ℕ → ℕ → Type 0
IsAway rights homes c z B at len = (home_of homes c).block ≡ B → (j : ℕ) → j < z.size → IsOpen rights c z j → ((home_of homes c).offset + j < at) ⊎ (at + len ≤ (home_of homes c).offset + j)

-- whatever became of a block, its home has the room that the block has
pub record AreBoundsKept (homes : List Home) (m n : List MemoryBlock) : Type 0 where
  pub each : (b : ℕ) (x : MemoryBlock) → (home_of homes b).is_seen ≡ true → slice_get m b ≡ Some x → HasBounds n (home_of homes b) x.size

-- ---- fresh blocks

abbrev pub blank_block : ℕ → ℕ → Kind → MemoryBlock
blank_block size align kind = record { size = size; align = align; kind = kind; life = Life.Live; owned = None; bytes = replicate size Byte.Undefined }

-- what may be done with the source's next block, of number b, may be done with the target's, of number c
pub record HasFreshRights (rights target : Rights) (b c : ℕ) : Type 0 where
  pub each : (size align : ℕ) (kind : Kind) → HasRights rights target (record { block = c; offset = 0; is_seen = true }) b (blank_block size align kind) (blank_block size align kind)

-- ---- each block at its own place

-- n homes, each the block of its own number, from the k-th on
abbrev pub own_homes : ℕ → ℕ → List Home
own_homes k zero = []
own_homes k (suc n) = record { block = k; offset = 0; is_seen = true } ∷ own_homes (suc k) n

-- a part of a pointer is one into a block that there is, at an offset of 64 bits
abbrev pub AreOffsets : ℕ → Byte → Type 0
AreOffsets n (Byte.Part (Pointer.At b o) k) = (b < n) × (o.bits < 2 ^ 64)
AreOffsets n _ = Unit {0}
