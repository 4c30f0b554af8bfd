-- The first place of two, and the first refusal of two: where there is none, neither is there.
use Rattle.std.proofs.Common.{◌≡◌, Bool, true, false, refl, ap, ◌∙◌}
use Rattle.std.specs.Prelude.{None, Option, Some}
use Rattle.ir_laws.specs.ir_base.declared.outcome.Place.{Place}
use Rattle.ir_laws.specs.ir_base.declared.rule.Rule.{Rule}
use Rattle.ir_parts.specs.Parts.{or_place, place_if}
use Rattle.rule_all.specs.Order.{or_later}
use Rattle.rule_modules.specs.Order.{or_refusal}
use Rattle.rule_modules.specs.declared.order.Refusal.{Refusal}

-- ---- places

pub first_place_out : (o q : Option Place) → or_place o q ≡ None → o ≡ None
first_place_out None q e = refl
first_place_out (Some p) q e = absurd (cc)

pub no_place_in : (o q : Option Place) → o ≡ None → q ≡ None → or_place o q ≡ None
no_place_in o q e d = ap (λ (x : Option Place). or_place x q) e ∙ d

pub not_placed : (b : Bool) (p : Place) → place_if b p ≡ None → b ≡ false
not_placed true p e = absurd (cc)
not_placed false p e = refl

-- ---- refusals

pub no_refusal : (rule : Rule) (o : Option Place) (b : Option Refusal) → o ≡ None → b ≡ None → or_refusal rule o b ≡ None
no_refusal rule o b e d = ap (λ (x : Option Place). or_refusal rule x b) e ∙ d

pub none_later : (a b : Option Refusal) → a ≡ None → b ≡ None → or_later a b ≡ None
none_later a b e d = ap (λ (x : Option Refusal). or_later x b) e ∙ d

pub both_later : (a b : Option Refusal) → or_later a b ≡ None → (a ≡ None) × (b ≡ None)
both_later None b e = (refl, e)
both_later (Some r) b e = absurd (cc)
