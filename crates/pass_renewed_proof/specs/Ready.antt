-- Slots that an instruction uses: their blocks in the source, and the blocks of the target that are theirs alone.
use Rattle.std.specs.Prelude.{ℕ, Bool, true, false, List, [], ◌∷◌, length, slice_get, Some, None, ◌≡◌, ◌≢◌, ◌≤◌, ◌<◌, ◌^◌, ◌⊎◌, set, IsTrue, if◌then◌else◌}
use Rattle.pass_kept_proof.specs.run_memory.Memory.{is_live, same_kind}
use Rattle.pass_kept_proof.specs.run_memory.Pointers.{moved}
use Rattle.pass_kept_proof.specs.run_memory.declared.block.Kind.{Kind}
use Rattle.pass_kept_proof.specs.run_memory.declared.block.MemoryBlock.{MemoryBlock}
use Rattle.pass_kept_proof.specs.run_memory.declared.pointer.Offset.{Offset}
use Rattle.pass_kept_proof.specs.run_memory.declared.pointer.Pointer.{Pointer}
use Rattle.pass_kept_proof.specs.run_memory.declared.pointer.Value.{Value}
use Rattle.pass_kept_proof.specs.ir_base.declared.name.Name.{Name}
use Rattle.pass_kept_proof.specs.flow_solver.Paths.{IsListed}
use Rattle.pass_kept_proof.specs.Needed.{reads_at}
use Rattle.run_laws.specs.memory.Pointers.{Home, IsValue, home_of}
use Rattle.pass_kept_proof.specs.run_step.Step.{Context, Fetched, Work}
use Rattle.pass_kept_proof.specs.run_step.Values.{address_of, value_in}
use Rattle.pass_renewed_proof.specs.Muted.{muted}
use Rattle.pass_renewed_proof.specs.Places.{IsBlank, showing, unseen}
use Rattle.pass_renewed_proof.specs.Shown.{AreShownBlocks}
use Rattle.pass_renewed_proof.specs.Small.{ComparesSmall}
use Rattle.pass_renewed_proof.specs.Steps.{AreOver}
use Rattle.run_laws.specs.embedded.Making.{whole_home}
use Rattle.run_laws.specs.embedded.Related.{HasBytes, HasDistance, HasNoSlot}
use Rattle.run_laws.specs.changed.Changed.{Each}

-- a block of the source, with the block of the target that is its own
pub record Place : Type 0 where
  pub block : ℕ
  pub target : ℕ

-- a live block of the target in which that block may stand, and no other does
pub record IsPlace (homes : List Home) (hides : ℕ → Bool) (m n : List MemoryBlock) (p : Place) : Type 0 where
  pub within : p.block < length homes
  pub here : MemoryBlock
  pub there : slice_get n p.target ≡ Some here
  pub live : is_live here.life ≡ true
  pub owner : here.owned ≡ None
  pub whole : length here.bytes ≡ here.size
  pub small : here.size < 2 ^ 64
  pub writable : same_kind here.kind Kind.Constant ≡ false
  pub room : (x : MemoryBlock) → slice_get m p.block ≡ Some x → x.size ≤ here.size
  pub align : (x : MemoryBlock) → slice_get m p.block ≡ Some x → here.align ≡ x.align
  pub live_others : (d : ℕ) (z : MemoryBlock) → d ≢ p.block → slice_get (muted hides m) d ≡ Some z → is_live z.life ≡ true → (home_of homes d).block ≢ p.target
  pub seen_others : (d : ℕ) → d ≢ p.block → (home_of homes d).is_seen ≡ true → (home_of homes d).block ≢ p.target

-- the block stands there, or no pointer is about into it and it holds nothing that would be lost
pub data IsSettled (homes : List Home) (hides : ℕ → Bool) (m : List MemoryBlock) (p : Place) : Type 0 where
  Stays : (seen : Bool) → home_of homes p.block ≡ record { block = p.target; offset = 0; is_seen = seen } → hides p.block ≡ false → IsSettled homes hides m p
  Comes : (home_of homes p.block).is_seen ≡ false → ((x : MemoryBlock) → slice_get m p.block ≡ Some x → is_live x.life ≡ true → IsBlank x) → IsSettled homes hides m p

-- no two of them have a block in common
abbrev pub AreApartFrom : Place → List Place → Type 0
AreApartFrom p ps = Each (λ (q : Place). (q.block ≢ p.block) × (q.target ≢ p.target)) ps

abbrev pub ArePlacesApart : List Place → Type 0
ArePlacesApart [] = Unit {0}
ArePlacesApart (p ∷ ps) = AreApartFrom p ps × ArePlacesApart ps

-- ---- homes and hidden blocks once they stand there

abbrev pub stood : List Home → List Place → List Home
stood homes [] = homes
stood homes (p ∷ ps) = stood (set homes p.block (whole_home p.target)) ps

abbrev pub shown_of : (ℕ → Bool) → List Place → ℕ → Bool
shown_of hides [] = hides
shown_of hides (p ∷ ps) = shown_of (showing hides p.block) ps

-- pointers into those of a set are no longer about
abbrev pub faded : (ℕ → Bool) → List Home → List Place → List Home
faded quiet homes [] = homes
faded quiet homes (p ∷ ps) = faded quiet (if quiet p.block then set homes p.block (unseen (home_of homes p.block)) else homes) ps

-- ---- values

-- the value is an address in one of these blocks, with the same address in the block that is its own
pub record IsPlaced (ps : List Place) (v w : Value) : Type 0 where
  pub place : Place
  pub listed : IsListed place ps
  pub offset : Offset
  pub source : v ≡ Value.Ptr (Pointer.At place.block offset)
  pub target : w ≡ Value.Ptr (Pointer.At place.target (moved offset 0))

-- an address that a getelementptr gives is poison in the source, or such an address again
abbrev pub IsPartPlaced : List Place → Value → Value → Type 0
IsPartPlaced ps v w = (v ≡ Value.Poison) ⊎ IsPlaced ps v w

-- ---- an instruction that uses them

pub record IsUsing (homes : List Home) (hides quiet : ℕ → Bool) (ps : List Place) (c : Context) (w x : Work) (here : Fetched) : Type 0 where
  pub over : AreOver homes hides w.world x.world
  pub hidden : (b : ℕ) → hides b ≡ true → (home_of homes b).is_seen ≡ false
  pub shown : AreShownBlocks quiet w.world.memory
  pub new_hides : hides (length w.world.memory) ≡ false
  pub new_quiet : quiet (length w.world.memory) ≡ false
  pub places : Each (IsPlace homes hides w.world.memory x.world.memory) ps
  pub settled : Each (IsSettled homes hides w.world.memory) ps
  pub apart : ArePlacesApart ps
  pub reads : (v : ℕ) → IsTrue (reads_at v here) → IsValue homes (value_in w.values v) (value_in x.values v) ⊎ IsPlaced ps (value_in w.values v) (value_in x.values v)
  pub room : length w.values ≤ length x.values
  pub globals : (n : Name) → IsValue homes (address_of c.code n) (address_of c.code n)
  pub distance : HasDistance c c w.values x.values here
  pub small : ComparesSmall c.code w.values here
  pub no_slot : HasNoSlot here
  pub bytes : HasBytes here
