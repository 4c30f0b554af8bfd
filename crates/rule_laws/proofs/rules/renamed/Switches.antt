-- Lemmas on switches, that speak of no pass.
use Rattle.std.proofs.Common.{◌≡◌, Bool, true, false, List, [], ◌∷◌, refl}
use Rattle.std.specs.Prelude.{None}
use Rattle.ir_laws.specs.ir_base.declared.outcome.Place.{Place}
use Rattle.ir_parts.specs.Parts.{Part, first_part, or_place, place_if}
use Rattle.ir_laws.specs.run_laws.changed.Changed.{Each}

pub none_part : (breaks : Place → Part → Bool) (xs : List (Place × Part)) → first_part breaks xs ≡ None → Each (λ x. breaks x.0 x.1 ≡ false) xs
none_part breaks [] e = tt
none_part breaks (x ∷ xs) e = on (breaks x.0 x.1) refl (none_part breaks xs) e
  where
    on : (b : Bool) → breaks x.0 x.1 ≡ b → (first_part breaks xs ≡ None → Each (λ y. breaks y.0 y.1 ≡ false) xs) → or_place (place_if b x.0) (first_part breaks xs) ≡ None → (breaks x.0 x.1 ≡ false) × Each (λ y. breaks y.0 y.1 ≡ false) xs
    on true d rest k = absurd (cc)
    on false d rest k = (d, rest k)
