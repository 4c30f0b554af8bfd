-- N2: all names are known where those of types, functions and globals are, and those of locals are.
use Rattle.std.proofs.Common.{◌≡◌, ℕ, Bool, true, false, List, [], ◌∷◌, refl, ap}
use Rattle.std.specs.List.{list_all}
use Rattle.std.specs.Prelude.{None, not, ◌&&◌}
use Rattle.ir_laws.specs.ir_base.declared.outcome.Place.{Place}
use Rattle.rule_laws.proofs.rules.local_rules.Carried.{none_of, passing}
use Rattle.rule_laws.proofs.rules.local_rules.Fitting.{either, no_either}
use Rattle.ir_laws.proofs.facts.Truth.{and_both, and_first, and_second, holds, first_no, second_no}
use Rattle.ir_parts.specs.Contents.{part_labels, part_operands, part_types}
use Rattle.ir_parts.specs.Parts.{Part as FunctionPart, first_part, parts_of}
use Rattle.ir_laws.specs.ir_model.declared.module.Function.{Function}
use Rattle.ir_laws.specs.ir_model.declared.module.Module.{Module}
use Rattle.ir_laws.specs.ir_model.declared.operand.Operand.{Operand}
use Rattle.rule_names.specs.Known.{first_unknown, is_label, is_value, knows_called, knows_operand, knows_type, names_unknown}
use Rattle.rule_laws.proofs.rules.replaced.Known.{called_before, operands_before, types_before}
use Rattle.rule_laws.specs.rules.replaced.Instructions.{KnowsItsLocals, is_there, names_lost, names_strange}
use Rattle.ir_laws.proofs.facts.Members.{each_turns}

module _ (n : Module) (values labels : ℕ → Bool) where
  one_known : (x : Operand) → knows_operand n (λ v. true) x ≡ true → is_there values x ≡ true → knows_operand n values x ≡ true
  one_known (Operand.Local v) e d = d
  one_known (Operand.Global y) e d = e
  one_known (Operand.Number z) e d = refl
  one_known Operand.True e d = refl
  one_known Operand.False e d = refl
  one_known Operand.Null e d = refl
  one_known Operand.None e d = refl
  one_known Operand.Poison e d = refl

  operands_known : (xs : List Operand) → list_all (knows_operand n (λ v. true)) xs ≡ true → list_all (is_there values) xs ≡ true → list_all (knows_operand n values) xs ≡ true
  operands_known [] e d = refl
  operands_known (x ∷ xs) e d =
      and_both (knows_operand n values x) (list_all (knows_operand n values) xs)
      (one_known x (and_first (knows_operand n (λ v. true) x) (list_all (knows_operand n (λ v. true)) xs) e) (and_first (is_there values x) (list_all (is_there values) xs) d))
      (operands_known xs (and_second (knows_operand n (λ v. true) x) (list_all (knows_operand n (λ v. true)) xs) e) (and_second (is_there values x) (list_all (is_there values) xs) d))

  part_known : (p : Place) (x : FunctionPart) → either (names_strange n) (names_lost values labels) p x ≡ false → names_unknown n values labels p x ≡ false
  part_known p x e =
      let strange = first_no (names_strange n p x) (names_lost values labels p x) e in
      let lost = holds (list_all (is_there values) (part_operands x) && list_all labels (part_labels x)) (second_no (names_strange n p x) (names_lost values labels p x) e) in
      ap not
      (and_both (list_all (knows_type n) (part_types x)) (list_all (knows_operand n values) (part_operands x) && (list_all labels (part_labels x) && knows_called n x)) (types_before n (λ v. true) (λ l. true) p x strange)
      (and_both (list_all (knows_operand n values) (part_operands x)) (list_all labels (part_labels x) && knows_called n x)
      (operands_known (part_operands x) (operands_before n (λ v. true) (λ l. true) p x strange) (and_first (list_all (is_there values) (part_operands x)) (list_all labels (part_labels x)) lost))
      (and_both (list_all labels (part_labels x)) (knows_called n x) (and_second (list_all (is_there values) (part_operands x)) (list_all labels (part_labels x)) lost) (called_before n (λ v. true) (λ l. true) p x strange))))

pub all_names_known : (n : Module) (l : ℕ) (g : Function) → first_part (names_strange n) (parts_of l g) ≡ None → KnowsItsLocals l g → first_unknown n l g ≡ None
all_names_known n l g a b =
    none_of (names_unknown n (is_value l g) (is_label l g)) (parts_of l g)
    (each_turns (λ (x : Place × FunctionPart). either (names_strange n) (names_lost (is_value l g) (is_label l g)) x.0 x.1 ≡ false) (λ (x : Place × FunctionPart). names_unknown n (is_value l g) (is_label l g) x.0 x.1 ≡ false)
    (λ x e. part_known n (is_value l g) (is_label l g) x.0 x.1 e) (parts_of l g)
    (passing (either (names_strange n) (names_lost (is_value l g) (is_label l g))) (parts_of l g) (no_either (names_strange n) (names_lost (is_value l g) (is_label l g)) (parts_of l g) a b)))
