-- Operands that are locals are positions of their function's table of names (N2).
use Rattle.std.proofs.Common.{◌≡◌, ◌<◌, inl, inr, ℕ, Bool, true, false, List, [], ◌∷◌, length, refl, sym, ap, ◌∙◌, subst}
use Rattle.std.specs.List.{list_all, list_any}
use Rattle.std.specs.Prelude.{◌&&◌, ◌||◌, ◌==◌}
use Rattle.pass_proofs.specs.flow_solver.Paths.{IsListed}
use Rattle.pass_proofs.proofs.ir_laws.facts.Truth.{and_first, and_second, equal_numbers, holds}
use Rattle.pass_proofs.specs.ir_model.declared.instr.Instr.{Instr}
use Rattle.pass_proofs.specs.ir_model.declared.module.Function.{Function}
use Rattle.pass_proofs.specs.ir_model.declared.module.Module.{Module}
use Rattle.pass_proofs.specs.ir_model.declared.operand.Operand.{Operand}
use Rattle.pass_proofs.specs.ir_parts.Contents.{instr_operands, part_labels, part_operands, part_types}
use Rattle.pass_proofs.specs.ir_parts.Locals.{locals_of}
use Rattle.pass_proofs.specs.ir_parts.Parts.{OfInstr, Part}
use Rattle.pass_proofs.specs.ir_parts.declared.defined.Definition.{Definition}
use Rattle.pass_split_proof.proofs.ready.Rules.{at_instr}
use Rattle.pass_proofs.specs.rule_laws.rules.function_rules.Kept.{KeepsFunctionRulesAt}
use Rattle.pass_proofs.specs.rule_laws.rules.source_rules.Named.{HasTabledLocals}
use Rattle.pass_proofs.specs.rule_names.Known.{is_kind, is_label, is_value, knows_called, knows_operand, knows_type, names_unknown}
use Rattle.pass_proofs.specs.run_step.Step.{AtInstr, fetch}
use Rattle.pass_proofs.specs.rule_names.declared.stage.Stage.{Stage}

defined_low : (n v : ℕ) (ds : List Definition) → ((d : Definition) → IsListed d ds → d.name < n)
    → list_any (λ d. is_kind false d && (d.name == v)) ds ≡ true → v < n
defined_low n v [] low e = absurd (cc)
defined_low n v (d ∷ ds) low e = on (is_kind false d && (d.name == v)) refl e
    (defined_low n v ds (λ x l. low x (inr l)))
  where
    on : (b : Bool) → (is_kind false d && (d.name == v)) ≡ b
        → (b || list_any (λ x. is_kind false x && (x.name == v)) ds) ≡ true
        → (list_any (λ x. is_kind false x && (x.name == v)) ds ≡ true → v < n) → v < n
    on true h k more = subst (λ (y : ℕ). y < n) (equal_numbers d.name v (and_second (is_kind false d) (d.name == v) h))
        (low d (inl refl))
    on false h k more = more k

pub value_low : (k : ℕ) (f : Function) → HasTabledLocals k f → (v : ℕ) → is_value k f v ≡ true → v < length f.names
value_low k f tabled v e = defined_low (length f.names) v (locals_of k f) tabled e

module _ (m : Module) (k : ℕ) (f : Function) (rules : KeepsFunctionRulesAt Stage.Plain m k f) (block at : ℕ)
    (i : Instr) (here : fetch f block at ≡ AtInstr i) where
  all_known : list_all (knows_operand m (is_value k f)) (instr_operands i) ≡ true
  all_known =
      let x : Part = OfInstr i in
      let all = holds (list_all (knows_type m) (part_types x) && (list_all (knows_operand m (is_value k f))
      (part_operands x) && (list_all (is_label k f) (part_labels x) && knows_called m x)))
      (at_instr k f (names_unknown m (is_value k f) (is_label k f)) rules.known block at i here) in
      and_first (list_all (knows_operand m (is_value k f)) (part_operands x)) _
      (and_second (list_all (knows_type m) (part_types x)) _ all)

  pub first_low : (x : Operand) (xs : List Operand) → instr_operands i ≡ x ∷ xs → (v : ℕ) → x ≡ Operand.Local v
      → v < length f.names
  first_low x xs are v is = value_low k f rules.tabled v
      (sym (ap (knows_operand m (is_value k f)) is) ∙ and_first (knows_operand m (is_value k f) x) _
      (sym (ap (list_all (knows_operand m (is_value k f))) are) ∙ all_known))
