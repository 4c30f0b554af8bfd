-- What the first pass makes of a source that breaks no rule breaks none of the rules of functions.
use Rattle.std.proofs.Common.{None, Option, Some, [], ap, option_map, refl, subst, sym, ℕ, ◌∙◌, ◌≡◌}
use Rattle.std.proofs.lemmas.Option.{slice_get-map}
use Rattle.std.specs.Prelude.{slice_get}
use Rattle.rule_laws.proofs.rules.local_rules.Rules.{second_out}
use Rattle.pass_early_proof.proofs.early.local_rules.Sources.{early_breaks_none, of_function}
use Rattle.rule_laws.specs.rules.local_rules.Local.{BreaksNoLocalRule}
use Rattle.pass_early.specs.Early.{early_function, early_module}
use Rattle.pass_early_proof.proofs.early.path_rules.Passes.{early_paths, early_shape}
use Rattle.rule_laws.specs.rules.source_rules.Named.{AreTabled}
use Rattle.rule_laws.specs.ir_parts.Locals.{locals_of}
use Rattle.rule_laws.specs.ir_parts.Parts.{function_place, place_if}
use Rattle.pass_early_proof.proofs.early.function_rules.Depths.{early_depths}
use Rattle.pass_early_proof.proofs.early.function_rules.Tabled.{coroutines_tabled, early_tabled}
use Rattle.rule_laws.specs.rules.function_rules.Kept.{AllKeepFunctionRules, KeepsFunctionRules}
use Rattle.rule_laws.specs.rules.function_rules.Tabled.{AreAllTabled}
use Rattle.rule_laws.specs.rule_all.Refused.{IsRefused}
use Rattle.ir_model.specs.declared.module.Function.{Function}
use Rattle.ir_model.specs.declared.module.Module.{Module}
use Rattle.rule_laws.specs.rule_names.Definitions.{first_twice, is_second_function, second_definitions}
use Rattle.rule_laws.specs.rule_names.Known.{unknown_names}
use Rattle.rule_laws.specs.rule_names.declared.stage.Stage.{Stage}
use Rattle.rule_laws.specs.ir_laws.facts.sound_states.Named.{AreLocalsNamed, AreUsesNamed}
use Rattle.rule_laws.specs.rule_types.Signatures.{other_types}

module _ (m : Module) (accepted : IsRefused Stage.Source m None) (all : AreAllTabled m) (locals : AreLocalsNamed m) (uses : AreUsesNamed m) where
  abbrev m2 : Module
  m2 = early_module m

  tabled : AreTabled m
  tabled = coroutines_tabled m all

  local : BreaksNoLocalRule m2
  local = early_breaks_none m accepted tabled

  definitions_in : (k : ℕ) (g : Function) → slice_get m2.functions k ≡ Some g → first_twice [] (locals_of k g) ≡ None
  definitions_in k g there =
      second_out (place_if (is_second_function m2 k g.name) (function_place k)) (first_twice [] (locals_of k g))
      (of_function m2 (second_definitions m2) local.definitions k g there)

  -- what the pass makes of a function of the source
  kept_by : (k : ℕ) (f : Function) → slice_get m.functions k ≡ Some f → slice_get m2.functions k ≡ Some (early_function f) → KeepsFunctionRules m2 k (early_function f)
  kept_by k f there now =
      let g : Function = early_function f in
      record {
        tabled = early_tabled m accepted all k f there;
        definitions = definitions_in k g now;
        known = of_function m2 (unknown_names m2) local.known k g now;
        depths = early_depths m accepted k f there;
        calls = of_function m2 (other_types m2) local.types k g now;
        local = local.functions k g now;
        edges = (early_shape m accepted tabled locals uses k g now).edges;
        uses = (early_paths m accepted tabled locals uses k g now).undefined_use;
      }

  pub all_kept : AllKeepFunctionRules (early_module m)
  all_kept k g there = on (slice_get m.functions k) refl (sym (slice_get-map early_function m.functions k) ∙ there)
    where
      on : (o : Option Function) → slice_get m.functions k ≡ o → option_map early_function o ≡ Some g → KeepsFunctionRules m2 k g
      on None e d = absurd (cc)
      on (Some f) e d =
          let same : early_function f ≡ g = cc in
          subst (KeepsFunctionRules m2 k) same (kept_by k f e (slice_get-map early_function m.functions k ∙ ap (option_map early_function) e))
