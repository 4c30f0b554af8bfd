-- The slots of an activation that begins an instance: the instance gets those that aren't ramp slots.
use Rattle.std.proofs.Common.{◌≡◌, ℕ, zero, suc, Bool, true, false, not, List, [], ◌∷◌, if◌then◌else◌}
use Rattle.std.proofs.Common.{refl, sym, ap, ◌∙◌, subst, arith, Some, None, Option}
use Rattle.std.specs.List.{Contains}
use Rattle.std.specs.Prelude.{filter}
use Rattle.run_types.specs.run_source.Source.{is_among}
use Rattle.run_types.specs.run_step.declared.world.Slot.{Slot}
use Rattle.run_types.proofs.pass_renewed_proof.Listing.{contains_first, contains_more}
use Rattle.run_types.specs.pass_renewed_proof.Beside.{AreSlots, Both, First, NoSlots, Second}
use Rattle.run_types.specs.pass_renewed_proof.Ledger.{Ledger}

-- ---- lists

-- what passes a test is among what does
pub contains_kept : {A : Type 0} (test : A → Bool) (xs : List A) (x : A) → test x ≡ true → Contains xs x
    → Contains (filter test xs) x
contains_kept test [] x is (k, lt, e) = absurd (omega arith)
contains_kept test (y ∷ xs) x is (zero, lt, e) = subst (λ z. Contains (filter test (z ∷ xs)) x) (sym e) (subst (λ t.
    Contains (if t then x ∷ filter test xs else filter test xs) x) (sym is) (contains_first x (filter test xs)))
contains_kept test (y ∷ xs) x is (suc k, lt, e) = on (test y) (contains_kept test xs x is (k, omega arith, e))
  where
    on : (t : Bool) → Contains (filter test xs) x → Contains (if t then y ∷ filter test xs else filter test xs) x
    on true h = contains_more y (filter test xs) x h
    on false h = h

-- it was there
pub kept_contains : {A : Type 0} (test : A → Bool) (xs : List A) (x : A) → Contains (filter test xs) x → Contains xs x
kept_contains test [] x h = h
kept_contains test (y ∷ xs) x h = on (test y) (λ r. kept_contains test xs x r) h
  where
    on : (t : Bool) → (Contains (filter test xs) x → Contains xs x)
        → Contains (if t then y ∷ filter test xs else filter test xs) x → Contains (y ∷ xs) x
    on false again r = contains_more y xs x (again r)
    on true again (zero, lt, e) = (zero, omega arith, e)
    on true again (suc k, lt, e) = contains_more y xs x (again (k, omega arith, e))

-- ---- slots that stand for one another

module _ (l : Ledger) (S O : Slot → Type 0) (flags : ℕ → Bool) (ramp others : List ℕ) (first : (slot : Slot) → S slot
    → is_among ramp slot ≡ false) (second : (slot : Slot) → O slot → is_among others slot ≡ true) (same : (slot : Slot)
    → flags slot.alloca ≡ false → is_among others slot ≡ is_among ramp slot) where
  abbrev is_instances : List ℕ → Slot → Bool
  is_instances allocas slot = not (is_among allocas slot)

  -- the instance's
  pub instance_slots : (ss ts : List Slot) → AreSlots l S O flags ss ts → AreSlots l S (λ t. ⊥) flags (filter (λ slot.
      not (is_among ramp slot)) ss) (filter (λ slot. not (is_among others slot)) ts)
  instance_slots _ _ NoSlots = NoSlots
  instance_slots _ _ (Both alloca b c ss ts off home none rest) = subst (λ z. AreSlots l S (λ t. ⊥) flags (if not
      (is_among ramp s) then s ∷ filter (is_instances ramp) ss else filter (is_instances ramp) ss) (if not z then t
      ∷ filter (is_instances others) ts else filter (is_instances others) ts)) (sym (same t off)) (by (is_among ramp s)
      (instance_slots ss ts rest))
    where
      s : Slot
      s = record { alloca = alloca; block = b }

      t : Slot
      t = record { alloca = alloca; block = c }

      by : (u : Bool) → AreSlots l S (λ t. ⊥) flags (filter (is_instances ramp) ss) (filter (is_instances others) ts)
          → AreSlots l S (λ t. ⊥) flags (if not u then s ∷ filter (is_instances ramp) ss else filter (is_instances ramp)
          ss) (if not u then t ∷ filter (is_instances others) ts else filter (is_instances others) ts)
      by true h = h
      by false h = Both alloca b c _ _ off home none h
  instance_slots _ ts (First s ss _ is rest) = subst (λ z. AreSlots l S (λ t. ⊥) flags (if not z then s ∷ filter
      (is_instances ramp) ss else filter (is_instances ramp) ss) (filter (is_instances others) ts)) (sym (first s is))
      (First s _ _ is (instance_slots ss ts rest))
  instance_slots ss _ (Second t _ ts is rest) = subst (λ z. AreSlots l S (λ t. ⊥) flags (filter (is_instances ramp) ss)
      (if not z then t ∷ filter (is_instances others) ts else filter (is_instances others) ts)) (sym (second t is))
      (instance_slots ss ts rest)

  -- those that stay the activation's
  pub ramp_slots : (Z : Slot → Type 0) (ss ts : List Slot) → AreSlots l S O flags ss ts → AreSlots l Z O flags (filter
      (is_among ramp) ss) (filter (is_among others) ts)
  ramp_slots Z _ _ NoSlots = NoSlots
  ramp_slots Z _ _ (Both alloca b c ss ts off home none rest) = subst (λ z. AreSlots l Z O flags (if is_among ramp s
      then s ∷ filter (is_among ramp) ss else filter (is_among ramp) ss) (if z then t ∷ filter (is_among others) ts else
      filter (is_among others) ts)) (sym (same t off)) (by (is_among ramp s) (ramp_slots Z ss ts rest))
    where
      s : Slot
      s = record { alloca = alloca; block = b }

      t : Slot
      t = record { alloca = alloca; block = c }

      by : (u : Bool) → AreSlots l Z O flags (filter (is_among ramp) ss) (filter (is_among others) ts)
          → AreSlots l Z O flags (if u then s ∷ filter (is_among ramp) ss else filter (is_among ramp) ss) (if u then t
          ∷ filter (is_among others) ts else filter (is_among others) ts)
      by true h = Both alloca b c _ _ off home none h
      by false h = h
  ramp_slots Z _ ts (First s ss _ is rest) = subst (λ z. AreSlots l Z O flags (if z then s ∷ filter (is_among ramp) ss
      else filter (is_among ramp) ss) (filter (is_among others) ts)) (sym (first s is)) (ramp_slots Z ss ts rest)
  ramp_slots Z ss _ (Second t _ ts is rest) = subst (λ z. AreSlots l Z O flags (filter (is_among ramp) ss) (if z then t
      ∷ filter (is_among others) ts else filter (is_among others) ts)) (sym (second t is)) (Second t _ _ is (ramp_slots
      Z ss ts rest))
