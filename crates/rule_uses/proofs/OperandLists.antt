-- The values of operands in a row.
use Rattle.std.proofs.Common.{◌≡◌, ℕ, List, [], ◌∷◌, ◌++◌, refl, sym, ap, ◌∙◌}
use Rattle.std.specs.Prelude.{option_to_list}
use Rattle.std.proofs.lemmas.List.{append-nil}
use Rattle.rule_uses.specs.Uses.{local_of, locals_in}
use Rattle.ir_model.specs.declared.operand.Operand.{Operand}

pub in_one : (x : Operand) → locals_in (x ∷ []) ≡ option_to_list (local_of x)
in_one x = append-nil (option_to_list (local_of x))

pub in_two : (x y : Operand) → locals_in (x ∷ y ∷ []) ≡ option_to_list (local_of x) ++ option_to_list (local_of y)
in_two x y = ap (λ (l : List ℕ). option_to_list (local_of x) ++ l) (in_one y)
