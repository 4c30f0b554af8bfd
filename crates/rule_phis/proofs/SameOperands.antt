-- Operands are told apart by their test.
use Rattle.std.proofs.Common.{◌≡◌, Bool, true, false, refl, ap, sym, ◌∙◌}
use Rattle.std.specs.Prelude.{IsTrue, ◌↔◌, ℤ, pos, negsuc}
use Rattle.std.proofs.lemmas.Bool.{eqb-true, eq-eqb}
use Rattle.ir_base.specs.declared.name.Name.{Name}
use Rattle.ir_base.specs.declared.name.Name.TheVariants.{Number, Text}
use Rattle.rule_phis.specs.Operands.{same_operand, same_whole}
use Rattle.ir_model.specs.Names.{same_name}
use Rattle.ir_model.specs.declared.operand.Operand.{Operand}
use Rattle.ir_tables.proofs.Tables.{same_name-same, same_text-refl}

whole-same : (m n : ℤ) → same_whole m n ≡ true → m ≡ n
whole-same (pos m) (pos n) e = ap pos (eqb-true m n e)
whole-same (negsuc m) (negsuc n) e = ap negsuc (eqb-true m n e)
whole-same (pos m) (negsuc n) e = absurd cc
whole-same (negsuc m) (pos n) e = absurd cc

whole-refl : (n : ℤ) → same_whole n n ≡ true
whole-refl (pos n) = eq-eqb n n refl
whole-refl (negsuc n) = eq-eqb n n refl

name-refl : (n : Name) → same_name n n ≡ true
name-refl (Number n) = eq-eqb n n refl
name-refl (Text t) = same_text-refl t

operand-same : (x y : Operand) → same_operand x y ≡ true → x ≡ y
operand-same (Operand.Local m) (Operand.Local n) e = ap Operand.Local (eqb-true m n e)
operand-same (Operand.Global m) (Operand.Global n) e = ap Operand.Global (same_name-same m n e)
operand-same (Operand.Number m) (Operand.Number n) e = ap Operand.Number (whole-same m n e)
operand-same Operand.True Operand.True e = refl
operand-same Operand.False Operand.False e = refl
operand-same Operand.Null Operand.Null e = refl
operand-same Operand.None Operand.None e = refl
operand-same Operand.Poison Operand.Poison e = refl
operand-same x y e = absurd cc

operand-refl : (x : Operand) → same_operand x x ≡ true
operand-refl (Operand.Local n) = eq-eqb n n refl
operand-refl (Operand.Global n) = name-refl n
operand-refl (Operand.Number n) = whole-refl n
operand-refl Operand.True = refl
operand-refl Operand.False = refl
operand-refl Operand.Null = refl
operand-refl Operand.None = refl
operand-refl Operand.Poison = refl

decided-by : (r v : Bool) (x y : Operand) → same_operand x y ≡ v → (IsTrue r → x ≡ y) → (x ≡ y → IsTrue r) → r ≡ v
decided-by true true x y e f g = refl
decided-by false false x y e f g = refl
decided-by true false x y e f g = sym (sym e ∙ ap (λ z. same_operand x z) (sym (f refl)) ∙ operand-refl x)
decided-by false true x y e f g = g (operand-same x y e)

pub decided : (r : Bool) (x y : Operand) → IsTrue r ↔ (x ≡ y) → r ≡ same_operand x y
decided r x y h = decided-by r (same_operand x y) x y refl h.0 h.1
