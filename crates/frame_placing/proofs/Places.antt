-- Places of lists after a change.
use Rattle.std.proofs.Common.{◌≡◌, ◌≢◌, ℕ, zero, suc, ◌<◌, ◌⊎◌, List, [], ◌∷◌, ◌++◌, length, get_or, map, Some, refl, sym, ap, ◌∙◌, ⊎_elim, inl, inr, arith}
use Rattle.std.specs.Prelude.{slice_get, slice_set}
use Rattle.std.proofs.lemmas.Bool.{cases_eq}
use Rattle.std.proofs.lemmas.Option.{slice_get_within, same_Some}
use Rattle.std.proofs.lemmas.List.{length-set, get_or-map, map-set}

pub set_here : {X : Type 0} (xs : List X) (i : ℕ) (y : X) → i < length xs → slice_get (slice_set xs i y) i ≡ Some y
set_here [] i y lt = absurd (omega arith)
set_here (x ∷ xs) zero y lt = refl
set_here (x ∷ xs) (suc i) y lt = set_here xs i y (omega arith)

pub set_other : {X : Type 0} (xs : List X) (i j : ℕ) (y : X) → j ≢ i → slice_get (slice_set xs i y) j ≡ slice_get xs j
set_other [] i j y ne = refl
set_other (x ∷ xs) zero zero y ne = absurd (ne refl)
set_other (x ∷ xs) zero (suc j) y ne = refl
set_other (x ∷ xs) (suc i) zero y ne = refl
set_other (x ∷ xs) (suc i) (suc j) y ne = set_other xs i j y (λ e. ne (ap suc e))

-- what stands at a place after a change is what was put there, or stood there before
pub set_cases : {X : Type 0} (xs : List X) (i j : ℕ) (v w : X) → slice_get (slice_set xs i v) j ≡ Some w → ((j ≡ i) × (w ≡ v)) ⊎ ((slice_get xs j ≡ Some w) × (j ≢ i))
set_cases xs i j v w e = ⊎_elim here there (cases_eq j i)
  where
    here : j ≡ i → ((j ≡ i) × (w ≡ v)) ⊎ ((slice_get xs j ≡ Some w) × (j ≢ i))
    here same =
        let in_set = slice_get_within (slice_set xs i v) j w e in
        let lt : i < length xs = omega (arith, length-set xs i v, in_set, same) in
        inl (same, same_Some w v (sym e ∙ (ap (slice_get (slice_set xs i v)) same ∙ set_here xs i v lt)))

    there : j ≢ i → ((j ≡ i) × (w ≡ v)) ⊎ ((slice_get xs j ≡ Some w) × (j ≢ i))
    there other = inr (sym (set_other xs i j v other) ∙ e, other)

-- a row that is longer by one, put back into its place
pub put_back : {X : Type 0} (rows : List X) (row_of : X → List ℕ) (k one : ℕ) (old new : X) → k < length rows → old ≡ get_or rows k old → row_of new ≡ row_of old ++ one ∷ [] →
    map row_of (slice_set rows k new) ≡ slice_set (map row_of rows) k (get_or (map row_of rows) k [] ++ one ∷ [])
put_back rows row_of k one old new lt is grown =
    map-set row_of rows k new
    ∙ ap (λ (l : List ℕ). slice_set (map row_of rows) k l)
    (grown ∙ ap (λ (l : List ℕ). l ++ one ∷ []) (sym (get_or-map row_of rows k old [] lt ∙ ap row_of (sym is))))
