-- The slots that are used before begin: where their allocas stand, the names of their temporaries and cells, and the table of fetches.
use Rattle.std.proofs.Common.{◌≡◌, ◌⊎◌, inl, inr, ⊎_elim, ℕ, zero, suc, ◌+◌, ◌*◌, ◌<◌, ◌≤◌, Bool, true, false, List, [], ◌∷◌, ◌++◌, length, refl, sym, ap, ◌∙◌, subst, arith}
use Rattle.std.specs.Prelude.{None, Option, Some, map, replicate, slice_get, slice_set, if◌then◌else◌}
use Rattle.pass_copies.specs.BeginCopies.{slot_allocas}
use Rattle.pass_copies.specs.Slots.{early_slot, fetches_of, set_fetches, slots_from}
use Rattle.pass_copies.specs.Uses.{flag_at}
use Rattle.pass_copies.specs.declared.slot.EarlySlot.{EarlySlot}
use Rattle.pass_fetch_proof.specs.copies.rules.Copies.{front_names}
use Rattle.pass_edges_proof.specs.flow_solver.Paths.{IsListed}
use Rattle.ir_model.specs.Ty.{ptr}
use Rattle.ir_model.specs.declared.instr.Instr.{Instr}
use Rattle.ir_model.specs.declared.module.Function.{Function}
use Rattle.ir_model.specs.declared.operand.Operand.{Operand}
use Rattle.pass_edges_proof.specs.run_laws.changed.Changed.{Each}
use Rattle.pass_edges_proof.specs.pass_fetch.Fetching.{fetch_at, fetch_of}
use Rattle.pass_edges_proof.specs.pass_fetch.declared.fetch.Fetch.{Fetch}

-- ---- names in a row

abbrev pub AreNumbered : ℕ → List EarlySlot → Type 0
AreNumbered n [] = Unit {0}
AreNumbered n (s ∷ ss) = (s.temporary ≡ n) × ((s.cell ≡ n + 1) × AreNumbered (n + 2) ss)

pub numbered : (used : List Bool) (sizes : List ℕ) (n : ℕ) (is : List Instr) → AreNumbered n (slots_from used sizes n is)
numbered used sizes n [] = tt
numbered used sizes n (Instr.Alloca r ty align ∷ is) = on (flag_at used r) (numbered used sizes n is) (numbered used sizes (n + 2) is)
  where
    on : (b : Bool) → AreNumbered n (slots_from used sizes n is) → AreNumbered (n + 2) (slots_from used sizes (n + 2) is) → AreNumbered n ((if b then early_slot sizes n r ty align ∷ [] else []) ++ slots_from used sizes (if b then n + 2 else n) is)
    on true same next = (refl, (refl, next))
    on false same next = same
numbered used sizes n (_ ∷ is) = numbered used sizes n is

-- each is the alloca of one of these instructions
abbrev pub IsAlloca : List Instr → EarlySlot → Type 0
IsAlloca is s = IsListed (Instr.Alloca s.slot s.ty s.align) is

pub from_allocas : (used : List Bool) (sizes : List ℕ) (n : ℕ) (all is : List Instr) → ((j : Instr) → IsListed j is → IsListed j all) → Each (IsAlloca all) (slots_from used sizes n is)
from_allocas used sizes n all [] inside = tt
from_allocas used sizes n all (Instr.Alloca r ty align ∷ is) inside = on (flag_at used r) (from_allocas used sizes n all is (λ j l. inside j (inr l))) (from_allocas used sizes (n + 2) all is (λ j l. inside j (inr l)))
  where
    on : (b : Bool) → Each (IsAlloca all) (slots_from used sizes n is) → Each (IsAlloca all) (slots_from used sizes (n + 2) is) → Each (IsAlloca all) ((if b then early_slot sizes n r ty align ∷ [] else []) ++ slots_from used sizes (if b then n + 2 else n) is)
    on true same next = (inside (Instr.Alloca r ty align) (inl refl), next)
    on false same next = same
from_allocas used sizes n all (_ ∷ is) inside = from_allocas used sizes n all is (λ j l. inside j (inr l))

-- names of temporaries and cells lie in a range
pub front_range : (n v : ℕ) (ss : List EarlySlot) → AreNumbered n ss → IsListed v (front_names ss) → (n ≤ v) × (v < n + 2 * length ss)
front_range n v [] h l = absurd l
front_range n v (s ∷ ss) h (inl e) = let a : s.temporary ≡ n = h.0 in let b : v ≡ s.temporary = e in (omega (arith, a, b), omega (arith, a, b))
front_range n v (s ∷ ss) h (inr (inl e)) = let a : s.cell ≡ n + 1 = h.1.0 in let b : v ≡ s.cell = e in (omega (arith, a, b), omega (arith, a, b))
front_range n v (s ∷ ss) h (inr (inr l)) =
    let r = front_range (n + 2) v ss h.1.1 l in
    let low : n + 2 ≤ v = r.0 in
    let high : v < n + 2 + 2 * length ss = r.1 in
    (omega (arith, low), omega (arith, high))

pub temporary_named : (ss : List EarlySlot) (s : EarlySlot) → IsListed s ss → IsListed s.temporary (front_names ss)
temporary_named [] s l = absurd l
temporary_named (x ∷ ss) s (inl e) = inl (ap (λ (y : EarlySlot). y.temporary) e)
temporary_named (x ∷ ss) s (inr l) = inr (inr (temporary_named ss s l))

pub cell_named : (ss : List EarlySlot) (s : EarlySlot) → IsListed s ss → IsListed s.cell (front_names ss)
cell_named [] s l = absurd l
cell_named (x ∷ ss) s (inl e) = inr (inl (ap (λ (y : EarlySlot). y.cell) e))
cell_named (x ∷ ss) s (inr l) = inr (inr (cell_named ss s l))

-- ---- the allocas at the front

pub allocas_listed : (ss : List EarlySlot) (s : EarlySlot) → IsListed s ss → IsListed (Instr.Alloca s.temporary s.ty s.align) (slot_allocas ss) × IsListed (Instr.Alloca s.cell ptr 8) (slot_allocas ss)
allocas_listed [] s l = absurd l
allocas_listed (x ∷ ss) s (inl e) = (inl (ap (λ (y : EarlySlot). Instr.Alloca y.temporary y.ty y.align) e), inr (inl (ap (λ (y : EarlySlot). Instr.Alloca y.cell ptr 8) e)))
allocas_listed (x ∷ ss) s (inr l) = let h = allocas_listed ss s l in (inr (inr h.0), inr (inr h.1))

-- what stands at the front is an alloca of a slot or a store into a cell
pub data IsFrontOf (ss : List EarlySlot) : Instr → Type 0 where
  Temporary : (s : EarlySlot) → IsListed s ss → IsFrontOf ss (Instr.Alloca s.temporary s.ty s.align)
  Cell : (s : EarlySlot) → IsListed s ss → IsFrontOf ss (Instr.Alloca s.cell ptr 8)

allocas_are : (all ss : List EarlySlot) → ((s : EarlySlot) → IsListed s ss → IsListed s all) → (j : Instr) → IsListed j (slot_allocas ss) → IsFrontOf all j
allocas_are all [] up j l = absurd l
allocas_are all (s ∷ ss) up j (inl e) = subst (IsFrontOf all) (sym e) (Temporary s (up s (inl refl)))
allocas_are all (s ∷ ss) up j (inr (inl e)) = subst (IsFrontOf all) (sym e) (Cell s (up s (inl refl)))
allocas_are all (s ∷ ss) up j (inr (inr l)) = allocas_are all ss (λ x h. up x (inr h)) j l

pub front_allocas : (ss : List EarlySlot) (j : Instr) → IsListed j (slot_allocas ss) → IsFrontOf ss j
front_allocas ss = allocas_are ss ss (λ s l. l)

-- an instruction of a list that is made for each slot
pub one_of : (make : EarlySlot → Instr) (ss : List EarlySlot) (j : Instr) → IsListed j (map make ss) → (s : EarlySlot) × (IsListed s ss × (j ≡ make s))
one_of make [] j l = absurd l
one_of make (s ∷ ss) j (inl e) = (s, (inl refl, e))
one_of make (s ∷ ss) j (inr l) = let x = one_of make ss j l in (x.0, (inr x.1.0, x.1.1))

-- ---- the table of fetches

set_found : {A : Type 0} (xs : List A) (n : ℕ) (x : A) (k : ℕ) (y : A) → slice_get (slice_set xs n x) k ≡ Some y → (slice_get xs k ≡ Some y) ⊎ ((n ≡ k) × (x ≡ y))
set_found [] n x k y e = inl e
set_found (z ∷ xs) zero x zero y e = inr (refl, cc)
set_found (z ∷ xs) zero x (suc k) y e = inl e
set_found (z ∷ xs) (suc n) x zero y e = inl e
set_found (z ∷ xs) (suc n) x (suc k) y e = ⊎_elim (λ a. inl a) (λ b. inr (ap suc b.0, b.1)) (set_found xs n x k y e)

-- a value that is fetched is a slot, loaded from its cell
pub record IsCellOf (ss : List EarlySlot) (v : ℕ) (fetch : Fetch) : Type 0 where
  pub slot : EarlySlot
  pub listed : IsListed slot ss
  pub value : slot.slot ≡ v
  pub same : fetch ≡ Fetch.Load ptr slot.cell

set_fetched : (all ss : List EarlySlot) → ((s : EarlySlot) → IsListed s ss → IsListed s all) → (table : List (Option Fetch)) (v : ℕ) (fetch : Fetch) → slice_get (set_fetches table ss) v ≡ Some (Some fetch) → (slice_get table v ≡ Some (Some fetch)) ⊎ IsCellOf all v fetch
set_fetched all [] up table v fetch e = inl e
set_fetched all (s ∷ ss) up table v fetch e =
    ⊎_elim
    (λ h. ⊎_elim (λ old. inl old) (λ new. inr (record { slot = s; listed = up s (inl refl); value = new.0; same = let own : Some (Fetch.Load ptr s.cell) ≡ Some fetch = new.1 in let is_one : Fetch.Load ptr s.cell ≡ fetch = cc in sym is_one })) (set_found table s.slot (Some (Fetch.Load ptr s.cell)) v (Some fetch) h))
    (λ h. inr h)
    (set_fetched all ss (λ x l. up x (inr l)) (slice_set table s.slot (Some (Fetch.Load ptr s.cell))) v fetch e)

abbrev no_fetches : ℕ → List (Option Fetch)
no_fetches n = replicate n None

none_there : (n v : ℕ) (fetch : Fetch) → slice_get (no_fetches n) v ≡ Some (Some fetch) → ⊥
none_there zero v fetch e = absurd (cc)
none_there (suc n) zero fetch e = absurd (cc)
none_there (suc n) (suc v) fetch e = none_there n v fetch e

pub cell_found : (f : Function) (ss : List EarlySlot) (v : ℕ) (fetch : Fetch) → fetch_of (fetches_of f ss) (Operand.Local v) ≡ Some fetch → IsCellOf ss v fetch
cell_found f ss v fetch e = on (slice_get (fetches_of f ss) v) refl e
  where
    found : slice_get (fetches_of f ss) v ≡ Some (Some fetch) → IsCellOf ss v fetch
    found h = ⊎_elim (λ old. absurd (none_there (length f.names) v fetch old)) (λ cell. cell) (set_fetched ss ss (λ s l. l) (no_fetches (length f.names)) v fetch h)

    on : (o : Option (Option Fetch)) → slice_get (fetches_of f ss) v ≡ o → fetch_at o ≡ Some fetch → IsCellOf ss v fetch
    on None d h = absurd (cc)
    on (Some o) d h = found (d ∙ ap (λ (x : Option Fetch). Some x) h)
