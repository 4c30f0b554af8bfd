-- Lemmas on carried, that speak of no pass.
use Rattle.std.proofs.Common.{◌≡◌, Bool, true, false, List, [], ◌∷◌, refl, ap, ◌∙◌}
use Rattle.std.specs.Prelude.{None}
use Rattle.ir_laws.specs.ir_base.declared.outcome.Place.{Place}
use Rattle.ir_parts.specs.Parts.{Part, first_part, or_place, place_if}
use Rattle.ir_laws.specs.run_laws.changed.Changed.{Each}

-- ---- no part breaks a rule

abbrev pub Passing : (Place → Part → Bool) → List (Place × Part) → Type 0
Passing breaks xs = Each (λ x. breaks x.0 x.1 ≡ false) xs

pub passing : (breaks : Place → Part → Bool) (xs : List (Place × Part)) → first_part breaks xs ≡ None → Passing breaks xs
passing breaks [] e = tt
passing breaks (x ∷ xs) e = on (breaks x.0 x.1) refl e (passing breaks xs)
  where
    on : (b : Bool) → breaks x.0 x.1 ≡ b → or_place (place_if b x.0) (first_part breaks xs) ≡ None → (first_part breaks xs ≡ None → Passing breaks xs) → Passing breaks (x ∷ xs)
    on true d k rest = absurd (cc)
    on false d k rest = (d, rest k)

pub none_of : (breaks : Place → Part → Bool) (xs : List (Place × Part)) → Passing breaks xs → first_part breaks xs ≡ None
none_of breaks [] h = refl
none_of breaks (x ∷ xs) h = ap (λ (b : Bool). or_place (place_if b x.0) (first_part breaks xs)) h.0 ∙ none_of breaks xs h.1
