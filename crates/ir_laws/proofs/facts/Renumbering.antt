-- Numbers under a map that keeps them apart.
use Rattle.std.proofs.Common.{◌≡◌, ℕ, Bool, refl, ap, ◌∙◌}
use Rattle.std.proofs.lemmas.Bool.{eq-eqb, eqb-false, eqb-true, ne_eqb}
use Rattle.std.specs.Prelude.{true, false, ◌==◌}
use Rattle.ir_laws.specs.facts.order_rules.Renumbered.{StaysApart}

-- numbers are the same just where what the map makes of them is
pub equal_same : (to : ℕ → ℕ) → StaysApart to → (a b : ℕ) → (to a == to b) ≡ (a == b)
equal_same to apart a b = on (a == b) refl
  where
    on : (c : Bool) → (a == b) ≡ c → (to a == to b) ≡ c
    on true e = eq-eqb (to a) (to b) (ap to (eqb-true a b e))
    on false e = ne_eqb (to a) (to b) (λ d. eqb-false a b e (apart a b d))
