-- Where blocks of the source stand that come, move, are hidden or are gone, by any rights.
use Rattle.std.specs.Prelude.{ℕ, Bool, true, false, List, [], ◌∷◌, slice_get, length, replicate, Option, Some, ◌≡◌, ◌≢◌, ◌≤◌, ◌<◌, ◌+◌, ◌++◌, ◌^◌, ◌||◌, ◌&&◌, not, ◌==◌, ◌⊎◌}
use Rattle.run_memory.specs.Memory.{Rights, is_live, may_compare_at, same_kind}
use Rattle.run_memory.specs.Pointers.{moved}
use Rattle.run_memory.specs.declared.block.Byte.{Byte}
use Rattle.run_memory.specs.declared.block.Kind.{Kind}
use Rattle.run_memory.specs.declared.block.MemoryBlock.{MemoryBlock}
use Rattle.run_memory.specs.declared.pointer.Offset.{Offset}
use Rattle.run_memory.specs.declared.pointer.Value.{Value}
use Rattle.run_laws.specs.memory.Pointers.{Extends, Home, home_of}
use Rattle.run_laws.specs.memory.Standing.{AreApart, AreBoundsKept, AreNullsKept, Embeds, HasBounds, HasRights, Stands}
use Rattle.run_laws.specs.embedded.Making.{whole_home}
use Rattle.run_laws.specs.changed.Changed.{Each}
use Rattle.run_laws.specs.transfer.Muted.{IsShown}

-- a block of undefined bytes
abbrev pub IsBlank : MemoryBlock → Type 0
IsBlank x = x.bytes ≡ replicate x.size Byte.Undefined

-- a memory that stands in another one, with what is asked of pointers into its blocks
pub record AreStanding (rights target : Rights) (homes : List Home) (m n : List MemoryBlock) : Type 0 where
  pub memory : Embeds rights target homes m n
  pub nulls : AreNullsKept rights target homes m n
  pub bounds : AreBoundsKept homes m n

-- a live block of the target in which the block b may stand from the home's offset on
pub record HasRoom (rights target : Rights) (n : List MemoryBlock) (q : Home) (b : ℕ) (x : MemoryBlock) : Type 0 where
  pub block : MemoryBlock
  pub there : slice_get n q.block ≡ Some block
  pub live : is_live block.life ≡ true
  pub whole : length block.bytes ≡ block.size
  pub fits : q.offset + x.size ≤ block.size
  pub small : block.size < 2 ^ 64
  pub writable : same_kind x.kind Kind.Constant ≡ false → same_kind block.kind Kind.Constant ≡ false
  pub allowed : HasRights rights target q b x block

-- pointers into the block b may be about where its home is this one: they may be compared with null as in the source,
-- and there is room
pub record MayBeSeen (rights target : Rights) (n : List MemoryBlock) (q : Home) (b : ℕ)
    (x : Option MemoryBlock) : Type 0 where
  pub nulls : (o : Offset) → may_compare_at rights b x o ≡ true
      → may_compare_at target q.block (slice_get n q.block) (moved o q.offset) ≡ true
  pub bounds : (z : MemoryBlock) → x ≡ Some z → HasBounds n q z.size

-- no live block but the block b has a byte or a place in common with it, where its home is this one
abbrev pub IsApartFrom : Rights → List Home → List MemoryBlock → Home → ℕ → MemoryBlock → Type 0
IsApartFrom rights homes m q b x = (c : ℕ) (z : MemoryBlock) → c ≢ b → slice_get m c ≡ Some z → is_live z.life ≡ true
    → (home_of homes c).block ≡ q.block → AreApart rights (home_of homes c) q c b z x

-- another memory of which the block b stands somewhere else, or anew; all others stand as they stood
pub record IsSeated (rights target : Rights) (homes more : List Home) (m k n : List MemoryBlock) (b : ℕ) : Type 0 where
  pub extends : Extends homes more
  pub long : length homes ≤ length more
  pub others : (d : ℕ) → d ≢ b → home_of more d ≡ home_of homes d
  pub same : (d : ℕ) → d ≢ b → slice_get k d ≡ slice_get m d
  pub stands : (x : MemoryBlock) → slice_get k b ≡ Some x → is_live x.life ≡ true → Stands rights target more n b x
  pub apart : (x : MemoryBlock) → slice_get k b ≡ Some x → is_live x.life ≡ true
      → IsApartFrom rights homes m (home_of more b) b x
  pub seen : (home_of more b).is_seen ≡ true → MayBeSeen rights target n (home_of more b) b (slice_get k b)

-- pointers to a block of the source, to which some may be about, may be compared with null wherever they lead
pub record IsComparable (target : Rights) (homes : List Home) (n : List MemoryBlock) (b : ℕ) : Type 0 where
  pub each : (o : Offset) → may_compare_at target (home_of homes b).block (slice_get n (home_of homes b).block)
      (moved o (home_of homes b).offset) ≡ true

-- each live block of the second is one of the first, as it was there; and each block has the size that it had
pub record HasFewer (target : Rights) (homes : List Home) (m k n : List MemoryBlock) : Type 0 where
  pub live : (b : ℕ) (x : MemoryBlock) → slice_get k b ≡ Some x → is_live x.life ≡ true → slice_get m b ≡ Some x
  pub nulls : (b : ℕ) → (home_of homes b).is_seen ≡ true
      → (slice_get k b ≡ slice_get m b) ⊎ IsComparable target homes n b
  pub sizes : (b : ℕ) (x : MemoryBlock) → slice_get k b ≡ Some x
      → (y : MemoryBlock) × (slice_get m b ≡ Some y) × (y.size ≡ x.size)

-- one block more is hidden, or one less
abbrev pub hiding : (ℕ → Bool) → ℕ → ℕ → Bool
hiding hides b c = hides c || (c == b)

abbrev pub showing : (ℕ → Bool) → ℕ → ℕ → Bool
showing hides b c = hides c && not (c == b)

-- a home to whose block pointers are no longer about, and one to whose block some may be
abbrev pub unseen : Home → Home
unseen q = record q { is_seen = false }

abbrev pub seen : Home → Home
seen q = record q { is_seen = true }

-- another list of homes of which that of the block b is this one
pub record IsRehomed (homes more : List Home) (b : ℕ) (q : Home) : Type 0 where
  pub long : length more ≡ length homes
  pub others : (d : ℕ) → d ≢ b → home_of more d ≡ home_of homes d
  pub here : home_of more b ≡ q

-- the blocks into which pointers may be about have homes in which there are blocks
abbrev pub AreThere : List Home → List MemoryBlock → Type 0
AreThere homes n = (b : ℕ) → (home_of homes b).is_seen ≡ true
    → (y : MemoryBlock) × (slice_get n (home_of homes b).block ≡ Some y)

-- no live block of the source stands in the target's block
abbrev pub IsEmpty : List Home → List MemoryBlock → ℕ → Type 0
IsEmpty homes m B = (b : ℕ) (x : MemoryBlock) → slice_get m b ≡ Some x → is_live x.life ≡ true
    → (home_of homes b).block ≢ B

-- ---- memories into some of whose blocks no pointer leads

abbrev pub IsShownByte : (ℕ → Bool) → Byte → Type 0
IsShownByte hides (Byte.Part p k) = IsShown hides (Value.Ptr p)
IsShownByte hides _ = Unit {0}

abbrev pub AreShownBytes : (ℕ → Bool) → List Byte → Type 0
AreShownBytes hides bytes = Each (IsShownByte hides) bytes

-- whatever became of a block, its bytes are no parts of such pointers
abbrev pub AreShownBlocks : (ℕ → Bool) → List MemoryBlock → Type 0
AreShownBlocks hides m = Each (λ (x : MemoryBlock). AreShownBytes hides x.bytes) m

-- ---- new blocks

-- the next block of the source has a home in the target as it is, seen or not
pub record IsNewIn (rights target : Rights) (homes : List Home) (m n : List MemoryBlock) (q : Home)
    (x : MemoryBlock) : Type 0 where
  pub known : length homes ≡ length m
  pub stands : is_live x.life ≡ true → Stands rights target (homes ++ q ∷ []) n (length m) x
  pub apart : is_live x.life ≡ true → IsApartFrom rights homes m q (length m) x
  pub seen : q.is_seen ≡ true → MayBeSeen rights target n q (length m) (Some x)

-- both make a block: the source's holds nothing, and there is room for it in the target's
pub record AreBothNew (rights target : Rights) (homes : List Home) (m n : List MemoryBlock)
    (x y : MemoryBlock) : Type 0 where
  pub known : length homes ≡ length m
  pub there : AreThere homes n
  pub blank : is_live x.life ≡ true → IsBlank x
  pub room : is_live x.life ≡ true → HasRoom rights target (n ++ y ∷ []) (whole_home (length n)) (length m) x
  pub seen : MayBeSeen rights target (n ++ y ∷ []) (whole_home (length n)) (length m) (Some x)
