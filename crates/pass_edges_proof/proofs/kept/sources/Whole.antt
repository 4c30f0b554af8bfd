-- What the first pass makes of accepted sources keeps, where edges have blocks, what is asked of values that a resume hands on.
use Rattle.std.proofs.Common.{◌≡◌, ℕ, Bool, true, false, List, Option, Some, None, refl, sym, ap, ◌∙◌, subst, ℤ}
use Rattle.std.specs.Prelude.{slice_get, unwrap_or, if◌then◌else◌}
use Rattle.pass_early_proof.proofs.run_agreement.Compose.{compose_within}
use Rattle.pass_early_proof.specs.run_agreement.Agreements.{AgreesWithin}
use Rattle.pass_early_proof.specs.ir_base.declared.outcome.Word.{Word}
use Rattle.pass_early_proof.specs.run_source.Source.{SourceAt}
use Rattle.pass_early_proof.specs.rule_shape.OneOfEach.{wrong_call}
use Rattle.pass_early.specs.Early.{early_module}
use Rattle.pass_edges.specs.EdgeBlocks.{with_edge_blocks}
use Rattle.pass_early_proof.proofs.early.path_rules.RenamedOperands.{map_was}
use Rattle.pass_edges_proof.proofs.edges.rules.Modules.{modules_kept}
use Rattle.pass_edges_proof.proofs.edges.sources.Accepted.{accepted_agree_split, accepted_kept}
use Rattle.pass_edges_proof.specs.edges.states.MovedState.{Keeps, edge_function, edges_split}
use Rattle.pass_early_proof.specs.rule_laws.rules.function_rules.Kept.{AllKeepFunctionRules}
use Rattle.pass_early_proof.specs.rule_all.Refused.{IsRefused}
use Rattle.pass_early_proof.specs.text_grammar.Text.{StandsFor}
use Rattle.ir_model.specs.Names.{function_at, no_function}
use Rattle.ir_model.specs.declared.module.Frame.{Frame}
use Rattle.ir_model.specs.declared.module.Function.{Function}
use Rattle.ir_model.specs.declared.module.Module.{Module}
use Rattle.pass_edges_proof.proofs.kept.sources.EdgeWindows.{edges_keep}
use Rattle.pass_edges_proof.proofs.kept.sources.Modules.{all_definite, all_keep, all_named, early_coroutines_keep, early_has_shape, early_rules}
use Rattle.pass_kept_proof.proofs.Handed.{handed_agrees}
use Rattle.pass_kept_proof.specs.Crossing.{AreDefinite}
use Rattle.pass_kept_proof.specs.Handed.{HandsOn, HavePlainNames}
use Rattle.pass_kept_proof.specs.Kept.{Keep, KeptAt}
use Rattle.pass_kept_proof.specs.SuspendRules.{AllKeepSuspendRules, KeepsSuspendRules}
use Rattle.pass_edges_proof.proofs.edges.shape.Kept.{calls_kept}
use Rattle.pass_early_proof.specs.rule_names.declared.stage.Stage.{Stage}

module _ (text : List ℕ) (m : Module) (stands : StandsFor text m) (accepted : IsRefused Stage.Source m None) where
  abbrev m2 : Module
  m2 = early_module m

  abbrev m3 : Module
  m3 = edges_split m2

  pub split_rules : AllKeepFunctionRules m3
  split_rules = modules_kept m2 (early_rules text m stands accepted)

  pub edges_kept : (k : ℕ) (f : Function) → slice_get m2.functions k ≡ Some f → Keeps f
  edges_kept k f e =
      let same : function_at m2 k ≡ f = ap (λ (o : Option Function). unwrap_or o no_function) e in
      subst Keeps same (accepted_kept text m stands accepted k)

  -- what holds of the coroutines whose edges have blocks
  pub of_split : (P : ℕ → Function → Type 0) → ((k : ℕ) (f : Function) → slice_get m2.functions k ≡ Some f → f.coroutine ≡ true → P k (with_edge_blocks f)) → (k : ℕ) (h : Function) → slice_get m3.functions k ≡ Some h → h.coroutine ≡ true → P k h
  of_split P holds k h e c =
      let x = map_was edge_function m2.functions k h e in
      subst (P k) (sym x.1.1) (on x.0 x.1.0 x.0.coroutine refl (sym (ap (λ (z : Function). z.coroutine) x.1.1) ∙ c))
    where
      on : (f : Function) → slice_get m2.functions k ≡ Some f → (b : Bool) → f.coroutine ≡ b → (if b then with_edge_blocks f else f).coroutine ≡ true → P k (if b then with_edge_blocks f else f)
      on f there true is d = holds k f there is
      on f there false is d = let no : false ≡ true = sym is ∙ d in absurd (cc)

  pub split_keeps : AllKeepSuspendRules (edges_split (early_module m))
  split_keeps = all_keep m3 split_rules (of_split (λ k h. KeepsSuspendRules h) (λ k f there c. edges_keep f (edges_kept k f there c) (early_coroutines_keep text m stands accepted k f there c)))

  pub split_definite : AreDefinite (edges_split (early_module m))
  split_definite = all_definite m3 split_rules

  pub split_named : HavePlainNames (edges_split (early_module m))
  split_named =
      all_named m3 split_rules
      (of_split (λ k h. wrong_call k h ≡ None)
      (λ k f there c.
      let shape = early_has_shape text m stands accepted k f there in
      calls_kept m2 k f (early_rules text m stands accepted k f there) c shape.calls shape.switches))

  pub split_handed : (keep : Keep) → HandsOn (edges_split (early_module m)) keep → (sizes : List Frame) (entry : ℕ) (args : List Word) (answers : List ℤ) → AgreesWithin 4 (SourceAt m sizes entry args answers) (KeptAt (edges_split (early_module m)) keep sizes entry args answers)
  split_handed keep hands sizes entry args answers =
      compose_within 4 1 (SourceAt m sizes entry args answers) (SourceAt m3 sizes entry args answers) (KeptAt m3 keep sizes entry args answers)
      (accepted_agree_split text m stands accepted sizes entry args answers)
      (handed_agrees m3 keep sizes entry args answers split_keeps split_definite split_named hands)
