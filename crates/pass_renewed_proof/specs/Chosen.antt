-- The slots that an instruction uses by the names that it reads, with their places.
use Rattle.std.specs.Prelude.{ℕ, zero, suc, List, [], ◌∷◌, length, Some, None, Option, if◌then◌else◌, ◌==◌, ◌≡◌}
use Rattle.std.specs.Prelude.{IsTrue}
use Rattle.std.specs.List.{list_any}
use Rattle.pass_kept_proof.specs.run_memory.declared.pointer.Pointer.{Pointer}
use Rattle.pass_kept_proof.specs.run_memory.declared.pointer.Value.{Value}
use Rattle.pass_kept_proof.specs.Needed.{reads_at}
use Rattle.pass_kept_proof.specs.run_step.Step.{Fetched}
use Rattle.pass_kept_proof.specs.run_step.Values.{Env, pointer_to, value_in}
use Rattle.pass_renewed_proof.specs.Ready.{Place}

-- the names below a number that an instruction reads
abbrev pub names_below : Fetched → ℕ → List ℕ
names_below here zero = []
names_below here (suc n) = if reads_at n here then n ∷ names_below here n else names_below here n

-- the blocks of two addresses
abbrev pub both_blocks : Value → Value → Option Place
both_blocks (Value.Ptr (Pointer.At b o)) (Value.Ptr (Pointer.At c p)) = Some (record { block = b; target = c })
both_blocks _ _ = None

-- the blocks of a root in both runs
abbrev pub place_by : Env → Env → Option ℕ → Option Place
place_by env other None = None
place_by env other (Some a) = both_blocks (value_in env a) (value_in other a)

-- a place more, unless one of its block is there
abbrev pub with_place : Option Place → List Place → List Place
with_place None ps = ps
with_place (Some p) ps = if list_any (λ (q : Place). q.block == p.block) ps then ps else p ∷ ps

abbrev pub places_of : (ℕ → Option ℕ) → Env → Env → List ℕ → List Place
places_of roots env other [] = []
places_of roots env other (v ∷ vs) = with_place (place_by env other (roots v)) (places_of roots env other vs)

-- those of an instruction
abbrev pub places_at : (ℕ → Option ℕ) → Env → Env → Fetched → List Place
places_at roots env other here = places_of roots env other (names_below here (length env))

-- a name that is read is an address in the slot, whose blocks these are
pub record IsPlaceOf (roots : ℕ → Option ℕ) (env other : Env) (here : Fetched) (p : Place) : Type 0 where
  pub name : ℕ
  pub is_read : IsTrue (reads_at name here)
  pub alloca : ℕ
  pub root : roots name ≡ Some alloca
  pub source : value_in env alloca ≡ pointer_to p.block
  pub target : value_in other alloca ≡ pointer_to p.target
