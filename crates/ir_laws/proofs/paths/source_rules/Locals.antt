-- Lemmas on locals, that speak of no pass.
use Rattle.std.proofs.Common.{◌≡◌, ◌⊎◌, inl, inr, ⊎_elim, ℕ, zero, suc, ◌+◌, List, [], ◌∷◌, ◌++◌, subst}
use Rattle.std.specs.Prelude.{Some, slice_get}
use Rattle.run_laws.specs.flow_solver.Paths.{IsListed}
use Rattle.ir_laws.proofs.facts.Lists.{row_of}

-- ---- lists of which no element is another

abbrev pub Apart : List ℕ → Type 0
Apart [] = Unit {0}
Apart (n ∷ ns) = (IsListed n ns → ⊥) × Apart ns

pub listed_left : {A : Type 0} (x : A) (xs ys : List A) → IsListed x xs → IsListed x (xs ++ ys)
listed_left x [] ys h = absurd h
listed_left x (z ∷ xs) ys (inl e) = inl e
listed_left x (z ∷ xs) ys (inr h) = inr (listed_left x xs ys h)

pub listed_right : {A : Type 0} (x : A) (xs ys : List A) → IsListed x ys → IsListed x (xs ++ ys)
listed_right x [] ys h = h
listed_right x (z ∷ xs) ys h = inr (listed_right x xs ys h)

pub listed_either : {A : Type 0} (x : A) (xs ys : List A) → IsListed x (xs ++ ys) → IsListed x xs ⊎ IsListed x ys
listed_either x [] ys h = inr h
listed_either x (z ∷ xs) ys (inl e) = inl (inl e)
listed_either x (z ∷ xs) ys (inr h) = ⊎_elim (λ k. inl (inr k)) (λ k. inr k) (listed_either x xs ys h)

pub in_row : {A : Type 0} (g : A → List ℕ) (xs : List A) (k n : ℕ) (a : A) → slice_get xs k ≡ Some a → IsListed n (g a) → IsListed n (row_of g xs)
in_row g [] k n a e h = absurd (cc)
in_row g (x ∷ xs) zero n a e h = let is_one : a ≡ x = cc in listed_left n (g x) (row_of g xs) (subst (λ y. IsListed n (g y)) is_one h)
in_row g (x ∷ xs) (suc k) n a e h = listed_right n (g x) (row_of g xs) (in_row g xs k n a e h)
