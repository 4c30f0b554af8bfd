-- What rule N1 says of a function's name.
use Rattle.std.proofs.Common.{◌≡◌, ℕ, Bool, true, false, refl, ap, ◌∙◌, Option, Some, None}
use Rattle.std.proofs.lemmas.Bool.{eq-eqb, eqb-true, or_parts}
use Rattle.std.specs.Prelude.{is_some, not, ◌||◌, ◌==◌}
use Rattle.ir_laws.specs.ir_base.declared.name.Name.{Name}
use Rattle.ir_laws.specs.ir_model.Names.{declaration_named, function_named, global_named}
use Rattle.ir_laws.specs.ir_model.declared.module.Module.{Module}
use Rattle.rule_names.specs.Definitions.{is_position, is_second_function}

-- a name that is defined once is a function's alone, and found at its position
pub record IsOnceAt (m : Module) (k : ℕ) (x : Name) : Type 0 where
  pub global : global_named m x ≡ None
  pub declaration : declaration_named m x ≡ None
  pub function : function_named m x ≡ Some k

none_there : (o : Option ℕ) → is_some o ≡ false → o ≡ None
none_there None e = refl
none_there (Some k) e = absurd (cc)

pub position_is : (o : Option ℕ) (k : ℕ) → not (is_position o k) ≡ false → o ≡ Some k
position_is None k e = absurd (cc)
position_is (Some j) k e = on (j == k) refl e
  where
    on : (b : Bool) → (j == k) ≡ b → not b ≡ false → Some j ≡ Some k
    on true h d = ap Some (eqb-true j k h)
    on false h d = absurd (cc)

pub once_at : (m : Module) (k : ℕ) (x : Name) → is_second_function m k x ≡ false → IsOnceAt m k x
once_at m k x e =
    let first = or_parts (is_some (global_named m x)) (is_some (declaration_named m x) || not (is_position (function_named m x) k)) e in
    let second = or_parts (is_some (declaration_named m x)) (not (is_position (function_named m x) k)) first.1 in
    record { global = none_there (global_named m x) first.0; declaration = none_there (declaration_named m x) second.0; function = position_is (function_named m x) k second.1 }

pub is_once : (global declaration function : Option ℕ) (k : ℕ) → global ≡ None → declaration ≡ None → function ≡ Some k → (is_some global || (is_some declaration || not (is_position function k))) ≡ false
is_once global declaration function k e d f = (λ i. is_some (e i) || (is_some (d i) || not (is_position (f i) k))) ∙ ap not (eq-eqb k k refl)
