-- Lemmas on unmarked, that speak of no pass.
use Rattle.std.proofs.Common.{◌≡◌, ℕ, true, refl}
use Rattle.std.specs.Prelude.{None, Option, Some}
use Rattle.ir_laws.specs.ir_model.Ty.{Ty}
use Rattle.ir_laws.specs.ir_model.declared.operand.Callee.{Callee}
use Rattle.rule_types.specs.Signatures.{is_result}
use Rattle.rule_values.specs.Instrs.{fits_result}

-- ---- markers

pub no_result : (c : Callee) (ty : Option Ty) (r : Option ℕ) → is_result None ty ≡ true → fits_result c ty r ≡ true → r ≡ None
no_result c None None a b = refl
no_result c None (Some n) a b = absurd (cc)
no_result c (Some t) r a b = absurd (cc)
