-- Truths, options, numbers and lists.
use Rattle.std.proofs.Common.{◌≡◌, ◌≢◌, ◌<◌, ◌≤◌, ℕ, suc, Bool, true, false, not, List, [], ◌∷◌, Option, refl, arith, ◌||◌}
use Rattle.std.specs.Prelude.{None, Some, slice_get}
use Rattle.pass_proofs.specs.run_laws.changed.Changed.{Each}

pub not_both : (t : Bool) → t ≡ true → t ≡ false → ⊥
not_both true y n = absurd (cc)
not_both false y n = absurd (cc)

pub or_true : (c : Bool) → (not c || true) ≡ true
or_true true = refl
or_true false = refl

pub some_none : {A : Type 0} (o : Option A) (q : A) → o ≡ Some q → o ≡ None → ⊥
some_none None q y n = absurd (cc)
some_none (Some p) q y n = absurd (cc)

pub not_less : (a c : ℕ) → a < c → c ≤ a → ⊥
not_less a c lt le = omega (arith, lt, le)

pub other_than : (a b : ℕ) → a < b → a ≢ b
other_than a b lt e = omega (arith, lt, e)

-- by positions
pub each_at : {A : Type 0} (P : A → Type 0) (xs : List A) → ((i : ℕ) (x : A) → slice_get xs i ≡ Some x → P x)
    → Each P xs
each_at P [] h = tt
each_at P (x ∷ xs) h = (h 0 x refl, each_at P xs (λ i y e. h (suc i) y e))
