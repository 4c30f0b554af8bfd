-- Blocks that an instruction uses, and the homes in which they stand, or come to stand because they hold nothing and
-- no pointer is about into them.
use Rattle.std.specs.Prelude.{ℕ, Bool, true, false, List, [], ◌∷◌, length, slice_get, Some, ◌≡◌, ◌≢◌, ◌<◌, ◌⊎◌, set, if◌then◌else◌}
use Rattle.run_memory.specs.Memory.{Rights, is_live}
use Rattle.run_memory.specs.Pointers.{moved}
use Rattle.run_memory.specs.declared.block.MemoryBlock.{MemoryBlock}
use Rattle.run_memory.specs.declared.pointer.Offset.{Offset}
use Rattle.run_memory.specs.declared.pointer.Pointer.{Pointer}
use Rattle.run_memory.specs.declared.pointer.Value.{Value}
use Rattle.flow_solver.specs.Paths.{IsListed}
use Rattle.run_laws.specs.memory.Pointers.{Home, IsValue, home_of}
use Rattle.run_laws.specs.memory.Standing.{AreApart}
use Rattle.run_laws.specs.changed.Changed.{Each}
use Rattle.run_laws.specs.transfer.Muted.{muted}
use Rattle.run_laws.specs.transfer.Places.{HasRoom, IsApartFrom, IsBlank, MayBeSeen, showing, unseen}

-- a block of the source, with the block of the target in which it stands from an offset on
pub record Place : Type 0 where
  pub block : ℕ
  pub target : ℕ
  pub offset : ℕ

-- the home of the block, once pointers into it may be about
abbrev pub home_at : Place → Home
home_at p = record { block = p.target; offset = p.offset; is_seen = true }

-- pointers into the block may be about there
pub record IsPlace (rights target : Rights) (homes : List Home) (m n : List MemoryBlock) (p : Place) : Type 0 where
  pub within : p.block < length homes
  pub seen : MayBeSeen rights target n (home_at p) p.block (slice_get m p.block)

-- a live block holds nothing, there is room for it there, and it is apart from all others
pub record IsComing (rights target : Rights) (homes : List Home) (hides : ℕ
    → Bool) (m n : List MemoryBlock) (p : Place) (x : MemoryBlock) : Type 0 where
  pub blank : IsBlank x
  pub room : HasRoom rights target n (home_at p) p.block x
  pub apart : IsApartFrom rights homes (muted hides m) (home_at p) p.block x

-- the block stands there, or no pointer is about into it and it may come there
pub data IsSettled (rights target : Rights) (homes : List Home) (hides : ℕ
    → Bool) (m n : List MemoryBlock) (p : Place) : Type 0 where
  Stays : (is_seen : Bool) → home_of homes p.block ≡ record (home_at p) { is_seen = is_seen } → hides p.block ≡ false
      → IsSettled rights target homes hides m n p
  Comes : (home_of homes p.block).is_seen ≡ false → ((x : MemoryBlock) → slice_get m p.block ≡ Some x
      → is_live x.life ≡ true → IsComing rights target homes hides m n p x) → IsSettled rights target homes hides m n p

-- two places of different blocks, which are apart where both blocks live
pub record AreTwoPlaces (rights : Rights) (m : List MemoryBlock) (p q : Place) : Type 0 where
  pub blocks : q.block ≢ p.block
  pub homes : (z x : MemoryBlock) → slice_get m p.block ≡ Some z → slice_get m q.block ≡ Some x
      → is_live z.life ≡ true → is_live x.life ≡ true → p.target ≡ q.target
      → AreApart rights (home_at p) (home_at q) p.block q.block z x

abbrev pub ArePlacesApart : Rights → List MemoryBlock → List Place → Type 0
ArePlacesApart rights m [] = Unit {0}
ArePlacesApart rights m (p ∷ ps) = Each (AreTwoPlaces rights m p) ps × ArePlacesApart rights m ps

-- ---- homes and hidden blocks once they stand there

abbrev pub stood : List Home → List Place → List Home
stood homes [] = homes
stood homes (p ∷ ps) = stood (set homes p.block (home_at p)) ps

abbrev pub shown_of : (ℕ → Bool) → List Place → ℕ → Bool
shown_of hides [] = hides
shown_of hides (p ∷ ps) = shown_of (showing hides p.block) ps

-- pointers into those of a set are no longer about
abbrev pub faded : (ℕ → Bool) → List Home → List Place → List Home
faded quiet homes [] = homes
faded quiet homes (p ∷ ps) = faded quiet (if quiet p.block then set homes p.block
    (unseen (home_of homes p.block)) else homes) ps

-- ---- values

-- the value is an address in one of these blocks, with the same address where the block stands
pub record IsPlaced (ps : List Place) (v w : Value) : Type 0 where
  pub place : Place
  pub listed : IsListed place ps
  pub offset : Offset
  pub source : v ≡ Value.Ptr (Pointer.At place.block offset)
  pub target : w ≡ Value.Ptr (Pointer.At place.target (moved offset place.offset))

-- the value stands for the source's, or will once the blocks stand there
abbrev pub IsValueOver : List Home → List Place → Value → Value → Type 0
IsValueOver homes ps v w = IsValue homes v w ⊎ IsPlaced ps v w

-- an address that a getelementptr gives is poison in the source, or such an address again
abbrev pub IsPartPlaced : List Place → Value → Value → Type 0
IsPartPlaced ps v w = (v ≡ Value.Poison) ⊎ IsPlaced ps v w

-- the places of some blocks, which all may come to stand at once
pub record ArePlaces (rights target : Rights) (homes : List Home) (hides : ℕ
    → Bool) (m n : List MemoryBlock) (ps : List Place) : Type 0 where
  pub places : Each (IsPlace rights target homes m n) ps
  pub settled : Each (IsSettled rights target homes hides m n) ps
  pub apart : ArePlacesApart rights m ps
