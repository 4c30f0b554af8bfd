-- Lemmas on known.
use Rattle.std.proofs.Common.{◌≡◌, ℕ, ◌+◌, [], refl, ap, ◌∙◌, subst, arith}
use Rattle.std.specs.Prelude.{Some, None, Option, slice_get, unwrap_or}
use Rattle.pass_early_proof.proofs.rule_laws.rules.local_rules.Rules.{second_out}
use Rattle.pass_early_proof.specs.rule_laws.rules.local_rules.Local.{BreaksNoLocalRule}
use Rattle.pass_early_proof.specs.rule_laws.rules.path_rules.Shape.{KeepsShape}
use Rattle.pass_early_proof.specs.rule_laws.rules.source_rules.Named.{AreTabled, HasTabledLocals}
use Rattle.pass_edges_proof.proofs.edges.sources.Rules.{rules_kept}
use Rattle.pass_edges_proof.specs.edges.states.MovedState.{AreEdgesKept, Keeps}
use Rattle.pass_early_proof.specs.ir_parts.Locals.{locals_of}
use Rattle.pass_early_proof.specs.ir_parts.Parts.{place_if, function_place}
use Rattle.ir_model.specs.Names.{function_at, no_function}
use Rattle.ir_model.specs.declared.module.Function.{Function}
use Rattle.ir_model.specs.declared.module.Module.{Module}
use Rattle.pass_early_proof.specs.rule_names.Definitions.{first_second, first_twice, is_second_function, second_definitions}
use Rattle.pass_early_proof.specs.rule_names.Items.{first_item}
use Rattle.pass_early_proof.specs.rule_names.Known.{first_unknown, unknown_names}
use Rattle.pass_early_proof.specs.ir_base.declared.outcome.Item.{Item}
use Rattle.pass_early_proof.proofs.rule_laws.rules.known_labels.Known.{functions_hold, labels_known}

module _ (m : Module) (tabled : AreTabled m) (local : BreaksNoLocalRule m) (shape : (k : ℕ) (f : Function) → slice_get m.functions k ≡ Some f → KeepsShape k f) where
  once_there : (k : ℕ) (f : Function) → slice_get m.functions k ≡ Some f → first_twice [] (locals_of k f) ≡ None
  once_there k f there =
      let types = second_out (first_item Item.Type (second_definitions m).on_type 0 m.types) _ local.definitions in
      let globals = second_out (first_item Item.Global (second_definitions m).on_global 0 m.globals) _ types in
      let functions = second_out (first_item Item.Declaration (second_definitions m).on_declaration 0 m.declarations) _ globals in
      let own = functions_hold (first_second m) 0 m.functions functions k f there in
      let same : 0 + k ≡ k = omega arith in
      second_out (place_if (is_second_function m k f.name) (function_place k)) (first_twice [] (locals_of k f)) (subst (λ (n : ℕ). first_second m n f ≡ None) same own)

  known_there : (k : ℕ) (f : Function) → slice_get m.functions k ≡ Some f → first_unknown m k f ≡ None
  known_there k f there =
      let types = second_out (first_item Item.Type (unknown_names m).on_type 0 m.types) _ local.known in
      let globals = second_out (first_item Item.Global (unknown_names m).on_global 0 m.globals) _ types in
      let functions = second_out (first_item Item.Declaration (unknown_names m).on_declaration 0 m.declarations) _ globals in
      let same : 0 + k ≡ k = omega arith in
      subst (λ (n : ℕ). first_unknown m n f ≡ None) same (functions_hold (first_unknown m) 0 m.functions functions k f there)

  there_keeps : (k : ℕ) (f : Function) → slice_get m.functions k ≡ Some f → HasTabledLocals k f → Keeps f
  there_keeps k f there low e =
      let x = shape k f there in
      rules_kept k f e (labels_known k f low m (known_there k f there)) (once_there k f there) x.edges x.switches

  pub modules_keep : AreEdgesKept m
  modules_keep func = on (slice_get m.functions func) refl
    where
      on : (o : Option Function) → slice_get m.functions func ≡ o → Keeps (unwrap_or o no_function)
      on None e = λ c. absurd (cc)
      on (Some f) e = λ c.
          let same : function_at m func ≡ f = ap (λ (o : Option Function). unwrap_or o no_function) e in
          there_keeps func f e (subst (HasTabledLocals func) same (tabled func (ap (λ (x : Function). x.coroutine) same ∙ c))) c
