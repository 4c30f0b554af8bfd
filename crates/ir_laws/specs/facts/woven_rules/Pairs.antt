-- Lists side by side, and how often a number stands in one.
use Rattle.std.specs.Prelude.{ℕ, Bool, true, false, List, [], ◌+◌, ◌∷◌, ◌==◌}

-- as many elements on both sides, each related to the one beside it
pub data Pairwise {A B : Type 0} (R : A → B → Type 0) : List A → List B → Type 0 where
  Empty : Pairwise R [] []
  Pair : (x : A) (y : B) (xs : List A) (ys : List B) → R x y → Pairwise R xs ys → Pairwise R (x ∷ xs) (y ∷ ys)

abbrev pub one_if : Bool → ℕ
one_if true = 1
one_if false = 0

-- how often a number stands in a list
abbrev pub times : ℕ → List ℕ → ℕ
times n [] = 0
times n (k ∷ ks) = one_if (k == n) + times n ks
