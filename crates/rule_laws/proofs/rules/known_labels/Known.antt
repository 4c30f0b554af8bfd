-- Labels that are known (rule N2) are positions of a table that has all that the function defines.
use Rattle.std.proofs.Common.{◌≡◌, inl, inr, ℕ, zero, suc, ◌+◌, ◌<◌, Bool, true, false, List, [], ◌∷◌, length, refl, sym, ap, ◌∙◌, subst, arith}
use Rattle.std.specs.List.{list_all, list_any}
use Rattle.std.specs.Prelude.{Some, None, Option, map, slice_get, ◌&&◌, ◌||◌, ◌==◌}
use Rattle.ir_laws.specs.ir_base.declared.outcome.Place.{Place}
use Rattle.rule_uses.specs.Undefined.{params_of}
use Rattle.ir_laws.proofs.facts.Truth.{equal_numbers, both_true, holds}
use Rattle.rule_laws.proofs.rules.renamed.Switches.{none_part}
use Rattle.rule_laws.proofs.rules.plain_rules.Places.{first_place_out as first_out}
use Rattle.rule_laws.proofs.rules.local_rules.Rules.{second_out}
use Rattle.rule_laws.proofs.rules.path_rules.Holding.{of_parts}
use Rattle.rule_laws.proofs.rules.source_rules.Locals.{block_names, name_of, names_are}
use Rattle.ir_laws.proofs.paths.source_rules.Locals.{in_row, listed_right}
use Rattle.ir_laws.proofs.facts.Lists.{row_of}
use Rattle.rule_laws.specs.rules.source_rules.Named.{HasTabledLocals}
use Rattle.ir_laws.specs.paths.threads.Labels.{HasLabelsBelow, HasNamedLabels}
use Rattle.ir_laws.proofs.facts.known_labels.Rules.{each_there}
use Rattle.rule_laws.proofs.rules.known_labels.Rules.{labels_spelt}
use Rattle.ir_laws.specs.flow_solver.Paths.{IsListed}
use Rattle.ir_parts.specs.Contents.{ending_labels, part_labels, part_operands, part_types}
use Rattle.ir_parts.specs.Locals.{locals_of}
use Rattle.ir_parts.specs.Parts.{Ending, parts_of}
use Rattle.ir_parts.specs.declared.defined.Definition.{Definition}
use Rattle.ir_laws.specs.ir_model.declared.module.Block.{Block}
use Rattle.ir_laws.specs.ir_model.declared.module.Function.{Function}
use Rattle.ir_laws.specs.ir_model.declared.module.Module.{Module}
use Rattle.ir_laws.specs.ir_paths.Paths.{targets}
use Rattle.rule_names.specs.Items.{first_function}
use Rattle.rule_names.specs.Known.{first_unknown, is_kind, is_label, is_value, knows_called, knows_operand, knows_type, names_unknown}
use Rattle.ir_laws.proofs.facts.Members.{each_known}

-- ---- definitions

-- one of them has the name
abbrev IsDefinition : List Definition → ℕ → Type 0
IsDefinition ds n = (d : Definition) × (IsListed d ds × (d.name ≡ n))

is_definition : (ds : List Definition) (n : ℕ) → IsListed n (map name_of ds) → IsDefinition ds n
is_definition [] n h = absurd h
is_definition (d ∷ ds) n (inl e) = (d, (inl refl, sym e))
is_definition (d ∷ ds) n (inr h) = let x = is_definition ds n h in (x.0, (inr x.1.0, x.1.1))

label_listed : (ds : List Definition) (n : ℕ) → list_any (λ d. is_kind true d && (d.name == n)) ds ≡ true → IsDefinition ds n
label_listed [] n h = absurd (cc)
label_listed (d ∷ ds) n h = on (is_kind true d && (d.name == n)) refl h (label_listed ds n)
  where
    on : (b : Bool) → (is_kind true d && (d.name == n)) ≡ b → (b || list_any (λ x. is_kind true x && (x.name == n)) ds) ≡ true → (list_any (λ x. is_kind true x && (x.name == n)) ds ≡ true → IsDefinition ds n) → IsDefinition (d ∷ ds) n
    on true is k rest = (d, (inl refl, equal_numbers d.name n (both_true (is_kind true d) (d.name == n) is).1))
    on false is k rest = let x = rest k in (x.0, (inr x.1.0, x.1.1))

-- ---- one function

module _ (func : ℕ) (f : Function) (tabled : HasTabledLocals func f) where
  defined_below : (n : ℕ) → IsDefinition (locals_of func f) n → n < length f.names
  defined_below n x = subst (λ (k : ℕ). k < length f.names) x.1.1 (tabled x.0 x.1.0)

  own_below : (k : ℕ) (b : Block) → slice_get f.blocks k ≡ Some b → b.label < length f.names
  own_below k b there =
      defined_below b.label (is_definition (locals_of func f) b.label
      (subst (IsListed b.label) (sym (names_are func f)) (listed_right b.label (params_of f) (row_of block_names f.blocks) (in_row block_names f.blocks k b.label b there (inl refl)))))

  module _ (m : Module) (known : first_unknown m func f ≡ None) where
    targets_known : (k : ℕ) (b : Block) → slice_get f.blocks k ≡ Some b → list_all (is_label func f) (ending_labels b.term) ≡ true
    targets_known k b there =
        let parts = of_parts (λ x. names_unknown m (is_value func f) (is_label func f) x.0 x.1 ≡ false) func f (none_part (names_unknown m (is_value func f) (is_label func f)) (parts_of func f) known) in
        let all = holds _ (parts.blocks k b there).ending in
        let later = both_true (list_all (knows_type m) (part_types (Ending b.term))) _ all in
        let last = both_true (list_all (knows_operand m (is_value func f)) (part_operands (Ending b.term))) _ later.1 in
        (both_true (list_all (is_label func f) (part_labels (Ending b.term))) (knows_called m (Ending b.term)) last.1).0

    pub labels_known : HasNamedLabels f
    labels_known = each_there (HasLabelsBelow (length f.names)) f.blocks
        (λ k b there. record {
          label = own_below k b there;
          targets = each_known (is_label func f) (λ t. t < length f.names) (λ n h. defined_below n (label_listed (locals_of func f) n h)) (targets b.term)
              (ap (λ (ls : List ℕ). list_all (is_label func f) ls) (sym (labels_spelt b.term)) ∙ targets_known k b there);
        })

-- ---- a module

pub functions_hold : (place : ℕ → Function → Option Place) (at : ℕ) (fs : List Function) → first_function place at fs ≡ None → (k : ℕ) (f : Function) → slice_get fs k ≡ Some f → place (at + k) f ≡ None
functions_hold place at [] e k f there = absurd (cc)
functions_hold place at (g ∷ fs) e zero f there =
    let here : at ≡ at + 0 = omega arith in
    let one : g ≡ f = cc in
    subst (λ (n : ℕ). place n f ≡ None) here (subst (λ (x : Function). place at x ≡ None) one (first_out (place at g) (first_function place (at + 1) fs) e))
functions_hold place at (g ∷ fs) e (suc k) f there =
    let next : at + 1 + k ≡ at + suc k = omega arith in
    subst (λ (n : ℕ). place n f ≡ None) next (functions_hold place (at + 1) fs (second_out (place at g) (first_function place (at + 1) fs) e) k f there)
