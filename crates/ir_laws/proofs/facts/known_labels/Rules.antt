-- Lemmas on rules, that speak of no pass.
use Rattle.std.proofs.Common.{◌≡◌, ℕ, zero, suc, Bool, true, false, List, [], ◌∷◌, refl, subst}
use Rattle.std.specs.List.{list_all, list_any}
use Rattle.std.specs.Prelude.{Some, slice_get}
use Rattle.run_laws.specs.changed.Changed.{Each}
use Rattle.ir_laws.proofs.facts.Truth.{both_true, neither}

module _ {A : Type 0} where
  pub all_at : (t : A → Bool) (xs : List A) (n : ℕ) (x : A) → list_all t xs ≡ true → slice_get xs n ≡ Some x → t x ≡ true
  all_at t [] n x h e = absurd (cc)
  all_at t (y ∷ xs) zero x h e = let same : y ≡ x = cc in subst (λ z. t z ≡ true) same (both_true (t y) (list_all t xs) h).0
  all_at t (y ∷ xs) (suc n) x h e = all_at t xs n x (both_true (t y) (list_all t xs) h).1 e

  pub none_at : (t : A → Bool) (xs : List A) (n : ℕ) (x : A) → list_any t xs ≡ false → slice_get xs n ≡ Some x → t x ≡ false
  none_at t [] n x h e = absurd (cc)
  none_at t (y ∷ xs) zero x h e = let same : y ≡ x = cc in subst (λ z. t z ≡ false) same (neither (t y) (list_any t xs) h).0
  none_at t (y ∷ xs) (suc n) x h e = none_at t xs n x (neither (t y) (list_any t xs) h).1 e

  pub each_there : (P : A → Type 0) (xs : List A) → ((n : ℕ) (x : A) → slice_get xs n ≡ Some x → P x) → Each P xs
  each_there P [] h = tt
  each_there P (x ∷ xs) h = (h 0 x refl, each_there P xs (λ n y e. h (suc n) y e))
