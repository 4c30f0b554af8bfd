-- The locals that a renumbered function defines: each is defined where it was (rules N1 and N2).
use Rattle.std.proofs.Common.{◌≡◌, ℕ, List, [], ◌∷◌, ◌++◌, refl, sym, ap, ◌∙◌}
use Rattle.std.proofs.lemmas.List.{map-append}
use Rattle.std.specs.List.{list_all}
use Rattle.std.specs.Prelude.{Bool, Some, false, if◌then◌else◌, map, not, true, ◌&&◌, ◌==◌}
use Rattle.ir_laws.specs.ir_base.declared.name.Name.{Name}
use Rattle.ir_laws.specs.ir_base.declared.outcome.Place.{Place}
use Rattle.ir_laws.proofs.facts.Lists.{any_same, all_changed}
use Rattle.ir_parts.specs.Contents.{part_labels, part_locals, part_operands}
use Rattle.ir_parts.specs.Locals.{is_head, local_at, locals_at, locals_in, locals_of}
use Rattle.ir_parts.specs.Parts.{Ending, Head, OfInstr, OfPhi, Part, Signature, parts_of}
use Rattle.ir_parts.specs.declared.defined.Definition.{Definition}
use Rattle.ir_laws.specs.ir_model.declared.instr.Instr.{Instr}
use Rattle.ir_laws.specs.ir_model.declared.module.Function.{Function}
use Rattle.ir_laws.specs.ir_model.declared.module.Module.{Module}
use Rattle.ir_laws.specs.ir_model.declared.operand.Callee.{Callee}
use Rattle.ir_laws.specs.ir_model.declared.operand.Operand.{Operand}
use Rattle.rule_names.specs.Definitions.{first_twice, has_number}
use Rattle.rule_names.specs.Known.{first_unknown, is_defined, is_kind, is_label, is_value, knows_called, knows_operand, knows_type, names_unknown}
use Rattle.rule_laws.proofs.rules.order_rules.Contents.{labels_over, locals_over, operands_over, types_same}
use Rattle.rule_laws.proofs.rules.order_rules.Parts.{first_of_parts, parts_over, renumbered_part}
use Rattle.ir_laws.proofs.facts.Renumbering.{equal_same}
use Rattle.ir_laws.specs.facts.order_rules.Renumbered.{StaysApart, renumbered_function, renumbered_operand}

abbrev pub renumbered_definition : (ℕ → ℕ) → Definition → Definition
renumbered_definition to d = record { place = d.place; name = to d.name; is_label = d.is_label }

module _ (to : ℕ → ℕ) (names : List Name) where
  head_same : (x : Part) → is_head (renumbered_part to names x) ≡ is_head x
  head_same (Signature f) = refl
  head_same (Head b) = refl
  head_same (OfPhi p) = refl
  head_same (OfInstr i) = refl
  head_same (Ending t) = refl

  each_at : (p : Place) (b : Bool) (ns : List ℕ) → map (local_at p b) (map to ns) ≡ map (renumbered_definition to) (map (local_at p b) ns)
  each_at p b [] = refl
  each_at p b (n ∷ ns) = ap (λ (ds : List Definition). local_at p b (to n) ∷ ds) (each_at p b ns)

  part_over : (p : Place) (x : Part) → locals_at (p, renumbered_part to names x) ≡ map (renumbered_definition to) (locals_at (p, x))
  part_over p x = (λ i. map (local_at p (head_same x i)) (locals_over to names x i)) ∙ each_at p (is_head x) (part_locals x)

  definitions_in : (xs : List (Place × Part)) → locals_in (map (λ (x : Place × Part). (x.0, renumbered_part to names x.1)) xs) ≡ map (renumbered_definition to) (locals_in xs)
  definitions_in [] = refl
  definitions_in (x ∷ xs) = (λ i. part_over x.0 x.1 i ++ definitions_in xs i) ∙ sym (map-append (renumbered_definition to) (locals_at x) (locals_in xs))

  pub definitions_over : (k : ℕ) (f : Function) → locals_of k (renumbered_function to names f) ≡ map (renumbered_definition to) (locals_of k f)
  definitions_over k f = ap locals_in (parts_over to names k f) ∙ definitions_in (parts_of k f)

  module _ (apart : StaysApart to) where
    -- ---- N1

    number_same : (ns : List ℕ) (n : ℕ) → has_number (map to ns) (to n) ≡ has_number ns n
    number_same ns n = any_same to (λ (k : ℕ). k == to n) (λ (k : ℕ). k == n) (λ k. equal_same to apart k n) ns

    twice_same : (before : List ℕ) (ds : List Definition) → first_twice (map to before) (map (renumbered_definition to) ds) ≡ first_twice before ds
    twice_same before [] = refl
    twice_same before (d ∷ ds) = λ i. if number_same before d.name i then Some d.place else twice_same (d.name ∷ before) ds i

    pub definitions_same : (k : ℕ) (f : Function) → first_twice [] (locals_of k (renumbered_function to names f)) ≡ first_twice [] (locals_of k f)
    definitions_same k f = ap (first_twice []) (definitions_over k f) ∙ twice_same [] (locals_of k f)

    -- ---- N2

    kind_same : (label : Bool) (d : Definition) → is_kind label (renumbered_definition to d) ≡ is_kind label d
    kind_same true d = refl
    kind_same false d = refl

    defined_same : (label : Bool) (ds : List Definition) (n : ℕ) → is_defined label (map (renumbered_definition to) ds) (to n) ≡ is_defined label ds n
    defined_same label ds n =
        any_same (renumbered_definition to) (λ (d : Definition). is_kind label d && (d.name == to n)) (λ (d : Definition). is_kind label d && (d.name == n))
        (λ d i. kind_same label d i && equal_same to apart d.name n i) ds

    is_same : (k : ℕ) (f : Function) (label : Bool) (n : ℕ) → is_defined label (locals_of k (renumbered_function to names f)) (to n) ≡ is_defined label (locals_of k f) n
    is_same k f label n = ap (λ (ds : List Definition). is_defined label ds (to n)) (definitions_over k f) ∙ defined_same label (locals_of k f) n

    module _ (m : Module) (k : ℕ) (f : Function) where
      abbrev g : Function
      g = renumbered_function to names f

      operand_same : (x : Operand) → knows_operand m (is_value k g) (renumbered_operand to x) ≡ knows_operand m (is_value k f) x
      operand_same (Operand.Local n) = is_same k f false n
      operand_same (Operand.Global n) = refl
      operand_same (Operand.Number z) = refl
      operand_same Operand.True = refl
      operand_same Operand.False = refl
      operand_same Operand.Null = refl
      operand_same Operand.None = refl
      operand_same Operand.Poison = refl

      callee_same : (r : _) (must_tail : Bool) (ty : _) (c : Callee) (args : _) → knows_called m (renumbered_part to names (OfInstr (Instr.Call r must_tail ty c args))) ≡ knows_called m (OfInstr (Instr.Call r must_tail ty c args))
      callee_same r must_tail ty (Callee.Named n) args = refl
      callee_same r must_tail ty (Callee.Allocator a) args = refl
      callee_same r must_tail ty (Callee.Intrinsic i) args = refl
      callee_same r must_tail ty (Callee.Local n) args = refl

      called_same : (x : Part) → knows_called m (renumbered_part to names x) ≡ knows_called m x
      called_same (OfInstr (Instr.Call r must_tail ty c args)) = callee_same r must_tail ty c args
      called_same _ = refl

      all_operands : (x : Part) → list_all (knows_operand m (is_value k g)) (part_operands (renumbered_part to names x)) ≡ list_all (knows_operand m (is_value k f)) (part_operands x)
      all_operands x =
          ap (list_all (knows_operand m (is_value k g))) (operands_over to names x)
          ∙ all_changed (knows_operand m (is_value k g)) (knows_operand m (is_value k f)) (renumbered_operand to) operand_same (part_operands x)

      all_labels : (x : Part) → list_all (is_label k g) (part_labels (renumbered_part to names x)) ≡ list_all (is_label k f) (part_labels x)
      all_labels x = ap (list_all (is_label k g)) (labels_over to names x) ∙ all_changed (is_label k g) (is_label k f) to (is_same k f true) (part_labels x)

      unknown_over : (p : Place) (x : Part) → names_unknown m (is_value k g) (is_label k g) p (renumbered_part to names x) ≡ names_unknown m (is_value k f) (is_label k f) p x
      unknown_over p x = λ i. not (list_all (knows_type m) (types_same to names x i) && (all_operands x i && (all_labels x i && called_same x i)))

      pub known_same : first_unknown m k g ≡ first_unknown m k f
      known_same = first_of_parts to names k f (names_unknown m (is_value k f) (is_label k f)) (names_unknown m (is_value k g) (is_label k g)) unknown_over
