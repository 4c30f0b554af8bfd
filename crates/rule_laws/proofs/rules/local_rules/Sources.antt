-- Lemmas on sources, that speak of no pass.
use Rattle.std.proofs.Common.{◌≡◌, ℕ, zero, suc, ◌+◌, List, [], ◌∷◌, subst, arith}
use Rattle.std.specs.Prelude.{None, Option, Some, slice_get}
use Rattle.ir_laws.specs.ir_base.declared.outcome.Place.{Place}
use Rattle.rule_laws.proofs.rules.plain_rules.Places.{first_place_out as first_out}
use Rattle.rule_laws.proofs.rules.local_rules.Rules.{second_out}
use Rattle.ir_laws.specs.ir_model.declared.module.Function.{Function}
use Rattle.rule_names.specs.Items.{first_function}

-- a rule that is broken nowhere is broken in no function
pub of_functions : (place : ℕ → Function → Option Place) (at : ℕ) (fs : List Function) (k : ℕ) (f : Function) → first_function place at fs ≡ None → slice_get fs k ≡ Some f → place (at + k) f ≡ None
of_functions place at [] k f e there = absurd (cc)
of_functions place at (g ∷ fs) zero f e there =
    let same : at ≡ at + 0 = omega arith in
    let is_one : g ≡ f = cc in
    subst (λ (n : ℕ). place n f ≡ None) same (subst (λ (x : Function). place at x ≡ None) is_one (first_out (place at g) (first_function place (at + 1) fs) e))
of_functions place at (g ∷ fs) (suc k) f e there =
    let same : at + 1 + k ≡ at + suc k = omega arith in
    subst (λ (n : ℕ). place n f ≡ None) same (of_functions place (at + 1) fs k f (second_out (place at g) (first_function place (at + 1) fs) e) there)
