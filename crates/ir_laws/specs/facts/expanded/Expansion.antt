-- A list in which each element becomes a list, by a running number.
use Rattle.std.specs.Prelude.{ℕ, zero, suc, List, [], length, ◌+◌, ◌∷◌, ◌++◌}

module _ {A : Type 0} (grow : ℕ → A → List A) (after : ℕ → A → ℕ) where
  -- an element that is met at number n becomes grow n of it, and the next one is met at after n of it
  abbrev pub expanded : ℕ → List A → List A
  expanded n [] = []
  expanded n (x ∷ xs) = grow n x ++ expanded (after n x) xs

  -- the number behind all elements
  abbrev pub number_behind : ℕ → List A → ℕ
  number_behind n [] = n
  number_behind n (x ∷ xs) = number_behind (after n x) xs

  -- the number at which the element at a position is met
  abbrev pub number_at : ℕ → ℕ → List A → ℕ
  number_at zero n xs = n
  number_at (suc k) n [] = n
  number_at (suc k) n (x ∷ xs) = number_at k (after n x) xs

  -- where that begins which the element at a position becomes; behind the last position all go on one for one
  abbrev pub place_of : ℕ → ℕ → List A → ℕ
  place_of zero n xs = 0
  place_of (suc k) n [] = suc k
  place_of (suc k) n (x ∷ xs) = length (grow n x) + place_of k (after n x) xs
