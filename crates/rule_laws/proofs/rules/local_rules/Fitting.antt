-- Lemmas on fitting, that speak of no pass.
use Rattle.std.proofs.Common.{◌≡◌, Bool, List, [], ◌∷◌, ap, ◌∙◌}
use Rattle.std.specs.Prelude.{None, ◌||◌}
use Rattle.ir_laws.specs.ir_base.declared.outcome.Place.{Place}
use Rattle.rule_laws.proofs.rules.local_rules.Carried.{Passing, none_of, passing}
use Rattle.ir_parts.specs.Parts.{Part, first_part}

-- ---- one of two rules

abbrev pub either : (Place → Part → Bool) → (Place → Part → Bool) → Place → Part → Bool
either a b p x = a p x || b p x

pub no_either : (a b : Place → Part → Bool) (xs : List (Place × Part)) → first_part a xs ≡ None → first_part b xs ≡ None → first_part (either a b) xs ≡ None
no_either a b xs d e = none_of (either a b) xs (joined xs (passing a xs d) (passing b xs e))
  where
    joined : (ys : List (Place × Part)) → Passing a ys → Passing b ys → Passing (either a b) ys
    joined [] h k = tt
    joined (y ∷ ys) h k = (ap (λ (t : Bool). t || b y.0 y.1) h.0 ∙ k.0, joined ys h.1 k.1)
