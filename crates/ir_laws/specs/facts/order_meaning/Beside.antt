-- Lemmas on beside, that speak of no pass.
use Rattle.std.specs.Prelude.{ℕ, ◌<◌, None, Option, Some}

-- a name of the one table goes to one of the other, by their lengths
abbrev pub IsHeld : (ℕ → ℕ) → ℕ → ℕ → ℕ → Type 0
IsHeld to k l r = (r < k) × (to r < l)

abbrev pub IsHeldResult : (ℕ → ℕ) → ℕ → ℕ → Option ℕ → Type 0
IsHeldResult to k l None = Unit {0}
IsHeldResult to k l (Some r) = IsHeld to k l r
