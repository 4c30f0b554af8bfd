-- Lemmas on woven, that speak of no pass.
use Rattle.std.proofs.Common.{◌≡◌, ℕ, Bool, true, false, refl}
use Rattle.std.specs.Prelude.{◌==◌}
use Rattle.ir_laws.proofs.facts.Truth.{equal_numbers}

pub other_number : (m n : ℕ) → (m ≡ n → ⊥) → (m == n) ≡ false
other_number m n h = on (m == n) refl
  where
    on : (b : Bool) → (m == n) ≡ b → b ≡ false
    on true e = absurd (h (equal_numbers m n e))
    on false e = refl
