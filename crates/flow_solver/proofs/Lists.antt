-- Places of lists after a change, and elements of longer lists.
use Rattle.std.proofs.Common.{◌≡◌, ◌≢◌, ℕ, zero, suc, ◌+◌, ◌<◌, ◌⊎◌, List, [], ◌∷◌, ◌++◌, length, drop, get_or, Option, Some, refl, sym, ap, ◌∙◌, ⊎_elim, inl, inr, arith}
use Rattle.std.specs.Prelude.{slice_get, slice_set}
use Rattle.std.proofs.lemmas.Bool.{cases_eq}
use Rattle.std.proofs.lemmas.Option.{slice_get_within}
use Rattle.std.proofs.lemmas.List.{length-set}
use Rattle.std.proofs.Math.Seq.{drop-cons}
use Rattle.flow_solver.specs.Paths.{IsListed}

pub set_here : {X : Type 0} (xs : List X) (i : ℕ) (y : X) → i < length xs → slice_get (slice_set xs i y) i ≡ Some y
set_here [] i y lt = absurd (omega arith)
set_here (x ∷ xs) zero y lt = refl
set_here (x ∷ xs) (suc i) y lt = set_here xs i y (omega arith)

pub set_other : {X : Type 0} (xs : List X) (i j : ℕ) (y : X) → j ≢ i → slice_get (slice_set xs i y) j ≡ slice_get xs j
set_other [] i j y ne = refl
set_other (x ∷ xs) zero zero y ne = absurd (ne refl)
set_other (x ∷ xs) zero (suc j) y ne = refl
set_other (x ∷ xs) (suc i) zero y ne = refl
set_other (x ∷ xs) (suc i) (suc j) y ne = set_other xs i j y (λ e. ne (ap suc e))

some_same : {X : Type 0} (x y : X) → Some x ≡ Some y → x ≡ y
some_same x y e = cc

pub same_place : {X : Type 0} (o : Option X) (x y : X) → o ≡ Some x → o ≡ Some y → x ≡ y
same_place o x y e f = some_same x y (sym e ∙ f)

-- what stands at a place after a change is what was put there, or stood there before
pub set_cases : {X : Type 0} (xs : List X) (i j : ℕ) (v w : X) → slice_get (slice_set xs i v) j ≡ Some w → ((j ≡ i) × (w ≡ v)) ⊎ ((slice_get xs j ≡ Some w) × (j ≢ i))
set_cases xs i j v w e = ⊎_elim here there (cases_eq j i)
  where
    here : j ≡ i → ((j ≡ i) × (w ≡ v)) ⊎ ((slice_get xs j ≡ Some w) × (j ≢ i))
    here same =
        let in_set = slice_get_within (slice_set xs i v) j w e in
        let lt : i < length xs = omega (arith, length-set xs i v, in_set, same) in
        inl (same, same_place (slice_get (slice_set xs i v) j) w v e (ap (slice_get (slice_set xs i v)) same ∙ set_here xs i v lt))

    there : j ≢ i → ((j ≡ i) × (w ≡ v)) ⊎ ((slice_get xs j ≡ Some w) × (j ≢ i))
    there other = inr (sym (set_other xs i j v other) ∙ e, other)

-- ---- elements

pub listed_front : {X : Type 0} (y : X) (xs zs : List X) → IsListed y xs → IsListed y (xs ++ zs)
listed_front y [] zs h = absurd h
listed_front y (x ∷ xs) zs h = ⊎_elim (λ e. inl e) (λ later. inr (listed_front y xs zs later)) h

pub listed_last : {X : Type 0} (y : X) (xs : List X) → IsListed y (xs ++ y ∷ [])
listed_last y [] = inl refl
listed_last y (x ∷ xs) = inr (listed_last y xs)

pub listed_cases : {X : Type 0} (y x : X) (xs : List X) → IsListed y (xs ++ x ∷ []) → IsListed y xs ⊎ (y ≡ x)
listed_cases y x [] h = ⊎_elim (λ e. inr e) (λ none. absurd none) h
listed_cases y x (z ∷ xs) h = ⊎_elim (λ e. inl (inl e)) (λ later. ⊎_elim (λ found. inl (inr found)) (λ e. inr e) (listed_cases y x xs later)) h

pub listed_at : {X : Type 0} (xs : List X) (i : ℕ) (y : X) → slice_get xs i ≡ Some y → IsListed y xs
listed_at [] i y e = absurd (cc)
listed_at (x ∷ xs) zero y e = inl (sym (some_same x y e))
listed_at (x ∷ xs) (suc i) y e = inr (listed_at xs i y e)

pub place_of : {X : Type 0} (xs : List X) (y : X) → IsListed y xs → (i : ℕ) × (slice_get xs i ≡ Some y)
place_of [] y h = absurd h
place_of (x ∷ xs) y h = ⊎_elim (λ e. (0, ap (λ z. Some z) (sym e))) (λ later. let found : (i : ℕ) × (slice_get xs i ≡ Some y) = place_of xs y later in (suc found.0, found.1)) h

pub drop-next : {X : Type 0} (xs : List X) (i : ℕ) (x : X) → i < length xs → x ≡ get_or xs i x → drop i xs ≡ x ∷ drop (i + 1) xs
drop-next xs i x lt e =
    let one : suc i ≡ i + 1 = omega arith in
    drop-cons xs i x lt ∙ ap (λ y. y ∷ drop (suc i) xs) (sym e) ∙ ap (λ k. x ∷ drop k xs) one

pub all-by : {X : Type 0} (xs : List X) → drop (length xs) xs ≡ []
all-by [] = refl
all-by (x ∷ xs) = all-by xs
