-- Pairs of numbers, in order.
use Rattle.std.specs.Prelude.{◌≡◌, ◌⊎◌, ◌↔◌, ◌<◌, ℕ, Bool, List, [], ◌∷◌, if◌then◌else◌}
use Rattle.flow_solver.specs.Paths.{IsListed}

-- a pair stands before another
abbrev pub IsBefore : ℕ × ℕ → ℕ × ℕ → Type 0
IsBefore x y = (x.0 < y.0) ⊎ ((x.0 ≡ y.0) × (x.1 < y.1))

abbrev pub IsBeforeAll : ℕ × ℕ → List (ℕ × ℕ) → Type 0
IsBeforeAll x [] = Unit {0}
IsBeforeAll x (y ∷ ys) = IsBefore x y × IsBeforeAll x ys

abbrev pub AreInOrder : List (ℕ × ℕ) → Type 0
AreInOrder [] = Unit {0}
AreInOrder (x ∷ xs) = IsBeforeAll x xs × AreInOrder xs

-- just the pairs of which the fact holds, in order
pub record AreThePairs (Holds : ℕ → ℕ → Type 0) (pairs : List (ℕ × ℕ)) : Type 0 where
  pub in_order : AreInOrder pairs
  pub each : (i k : ℕ) → IsListed (i, k) pairs ↔ Holds i k

-- just those of them that stand before a pair, in order
pub record AreUpTo (Holds : ℕ → ℕ → Type 0) (i k : ℕ) (pairs : List (ℕ × ℕ)) : Type 0 where
  pub in_order : AreInOrder pairs
  pub each : (a b : ℕ) → IsListed (a, b) pairs ↔ (Holds a b × IsBefore (a, b) (i, k))

abbrev pub pair_if : Bool → ℕ → ℕ → List (ℕ × ℕ)
pair_if b i k = if b then (i, k) ∷ [] else []
