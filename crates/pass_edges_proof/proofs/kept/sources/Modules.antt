-- Modules whose functions break no rule keep what is asked, and so do what the first pass makes of accepted sources.
use Rattle.std.proofs.Common.{◌≡◌, ℕ, Bool, true, false, List, Option, Some, None, refl, ℤ}
use Rattle.std.specs.Prelude.{slice_get, unwrap_or}
use Rattle.pass_early_proof.proofs.run_agreement.Compose.{compose_within}
use Rattle.pass_early_proof.specs.run_agreement.Agreements.{AgreesWithin}
use Rattle.pass_early_proof.specs.ir_base.declared.outcome.Word.{Word}
use Rattle.pass_early_proof.specs.run_source.Source.{SourceAt}
use Rattle.pass_early_proof.specs.rule_shape.OneOfEach.{wrong_call}
use Rattle.pass_early.specs.Early.{early_module}
use Rattle.pass_early_proof.proofs.early.path_rules.Passes.{early_paths, early_shape}
use Rattle.pass_early_proof.proofs.early.sources.Accepted.{accepted_agree}
use Rattle.pass_early_proof.proofs.rule_laws.rules.sources.Tables.{all_tabled}
use Rattle.pass_early_proof.proofs.rule_laws.texts.named_texts.Placed.{locals_named, uses_named}
use Rattle.pass_early_proof.specs.rule_laws.rules.path_rules.Paths.{KeepsPaths}
use Rattle.pass_early_proof.specs.rule_laws.rules.path_rules.Shape.{KeepsShape}
use Rattle.pass_early_proof.proofs.early.function_rules.Early.{all_kept}
use Rattle.pass_early_proof.proofs.rule_laws.rules.function_rules.Shaped.{all_shaped}
use Rattle.pass_early_proof.specs.rule_laws.rules.function_rules.Kept.{AllKeepFunctionRules, KeepsFunctionRules}
use Rattle.pass_early_proof.specs.rule_all.Refused.{IsRefused}
use Rattle.pass_early_proof.specs.text_grammar.Text.{StandsFor}
use Rattle.ir_model.specs.Names.{function_at, no_function}
use Rattle.ir_model.specs.declared.module.Frame.{Frame}
use Rattle.ir_model.specs.declared.module.Function.{Function}
use Rattle.ir_model.specs.declared.module.Module.{Module}
use Rattle.ir_model.specs.declared.operand.Intrinsic.{Intrinsic}
use Rattle.pass_early_proof.specs.ir_paths.declared.point.Point.{Point}
use Rattle.pass_edges_proof.proofs.kept.sources.Definite.{definite}
use Rattle.pass_edges_proof.proofs.kept.sources.Names.{StaysInside, none_outside, plain_names, save_inside, suspend_inside}
use Rattle.pass_edges_proof.proofs.kept.sources.Windows.{coroutine_keeps}
use Rattle.pass_kept_proof.proofs.Handed.{handed_agrees}
use Rattle.pass_kept_proof.specs.Crossing.{AreDefinite, IsDefinite}
use Rattle.pass_kept_proof.specs.Handed.{HandsOn, HasPlainNames, HavePlainNames}
use Rattle.pass_kept_proof.specs.Kept.{Keep, KeptAt}
use Rattle.pass_kept_proof.specs.SuspendRules.{AllKeepSuspendRules, IsCallAt, KeepsSuspendRules}
use Rattle.pass_early_proof.proofs.text_canonical.order.Shaped.{text_is_shaped}
use Rattle.pass_early_proof.specs.rule_names.declared.stage.Stage.{Stage}
use Rattle.pass_early_proof.specs.run_step.Step.{AtInstr, Nowhere}

-- ---- where there is no function

no_call : (j : Intrinsic) (p : Point) → IsCallAt j no_function p → ⊥
no_call j p c = let t : Nowhere ≡ AtInstr c.instr = c.stands in absurd (cc)

empty_keeps : KeepsSuspendRules no_function
empty_keeps = record {
  switched = λ s c. absurd (no_call Intrinsic.CoroSuspend s c);
  unread = λ s c v g n. no_call Intrinsic.CoroSuspend s c;
  leads = λ k s c e. absurd (no_call Intrinsic.CoroSave k c);
  no_end = λ k s p c e w d. no_call Intrinsic.CoroSave k c;
  given = λ k s p v c e w n g. no_call Intrinsic.CoroSave k c;
  no_phi = λ k s v c e n g. no_call Intrinsic.CoroSave k c;
}

empty_definite : IsDefinite no_function
empty_definite = record {
  uses = λ v block at w h. absurd (cc);
  phi_uses = λ v block at label w b h. b;
}

empty_names : HasPlainNames no_function
empty_names = record {
  end_is_first = λ i e. absurd (cc);
  end_is_there = λ t e. absurd (cc);
  end_has_no_phis = refl;
  labels = λ block b e. absurd (cc);
  given = λ v block at i l e r. absurd (cc);
}

pub at_function : (P : Function → Type 0) (m : Module) → P no_function → ((k : ℕ) (f : Function) → slice_get m.functions k ≡ Some f → P f) → (func : ℕ) → P (function_at m func)
at_function P m none h func = on (slice_get m.functions func) refl
  where
    on : (o : Option Function) → slice_get m.functions func ≡ o → P (unwrap_or o no_function)
    on None e = none
    on (Some f) e = h func f e

-- ---- functions that are no coroutines

outside_keeps : (m : Module) (k : ℕ) (f : Function) → KeepsFunctionRules m k f → f.coroutine ≡ false → KeepsSuspendRules f
outside_keeps m k f rules outside = record {
  switched = λ s c. absurd (none Intrinsic.CoroSuspend suspend_inside s c);
  unread = λ s c v g n. none Intrinsic.CoroSuspend suspend_inside s c;
  leads = λ save s c e. absurd (none Intrinsic.CoroSave save_inside save c);
  no_end = λ save s p c e w d. none Intrinsic.CoroSave save_inside save c;
  given = λ save s p v c e w n g. none Intrinsic.CoroSave save_inside save c;
  no_phi = λ save s v c e n g. none Intrinsic.CoroSave save_inside save c;
}
  where
    none : (j : Intrinsic) → StaysInside j → (p : Point) → IsCallAt j f p → ⊥
    none j inside p c = none_outside m k f rules outside p.block p.at c.instr j inside c.stands c.is

-- ---- modules

pub all_keep : (m : Module) → AllKeepFunctionRules m → ((k : ℕ) (f : Function) → slice_get m.functions k ≡ Some f → f.coroutine ≡ true → KeepsSuspendRules f) → AllKeepSuspendRules m
all_keep m rules h = at_function KeepsSuspendRules m empty_keeps (λ k f e. on k f e f.coroutine refl)
  where
    on : (k : ℕ) (f : Function) → slice_get m.functions k ≡ Some f → (b : Bool) → f.coroutine ≡ b → KeepsSuspendRules f
    on k f e true c = h k f e c
    on k f e false c = outside_keeps m k f (rules k f e) c

pub all_definite : (m : Module) → AllKeepFunctionRules m → AreDefinite m
all_definite m rules = record { each = at_function IsDefinite m empty_definite (λ k f e. definite m k f (rules k f e)) }

pub all_named : (m : Module) → AllKeepFunctionRules m → ((k : ℕ) (f : Function) → slice_get m.functions k ≡ Some f → f.coroutine ≡ true → wrong_call k f ≡ None) → HavePlainNames m
all_named m rules calls = at_function HasPlainNames m empty_names (λ k f e. plain_names m k f (rules k f e) (calls k f e))

-- ---- what the first pass makes of sources

module _ (text : List ℕ) (m : Module) (stands : StandsFor text m) (accepted : IsRefused Stage.Source m None) where
  abbrev m2 : Module
  m2 = early_module m

  pub early_rules : AllKeepFunctionRules (early_module m)
  early_rules = all_kept m accepted (all_shaped m (text_is_shaped text m stands)) (locals_named text m stands) (uses_named text m stands)

  pub early_has_shape : (k : ℕ) (f : Function) → slice_get (early_module m).functions k ≡ Some f → KeepsShape k f
  early_has_shape = early_shape m accepted (all_tabled text m stands) (locals_named text m stands) (uses_named text m stands)

  pub early_has_paths : (k : ℕ) (f : Function) → slice_get (early_module m).functions k ≡ Some f → KeepsPaths k f
  early_has_paths = early_paths m accepted (all_tabled text m stands) (locals_named text m stands) (uses_named text m stands)

  pub early_coroutines_keep : (k : ℕ) (f : Function) → slice_get (early_module m).functions k ≡ Some f → f.coroutine ≡ true → KeepsSuspendRules f
  early_coroutines_keep k f e c = coroutine_keeps m2 k f c (early_rules k f e) (early_has_shape k f e) (early_has_paths k f e)

  pub early_keeps : AllKeepSuspendRules (early_module m)
  early_keeps = all_keep m2 early_rules early_coroutines_keep

  pub early_definite : AreDefinite (early_module m)
  early_definite = all_definite m2 early_rules

  pub early_named : HavePlainNames (early_module m)
  early_named = all_named m2 early_rules (λ k f e c. (early_has_shape k f e).calls)

  pub early_handed : (keep : Keep) → HandsOn (early_module m) keep → (sizes : List Frame) (entry : ℕ) (args : List Word) (answers : List ℤ) → AgreesWithin 2 (SourceAt m sizes entry args answers) (KeptAt (early_module m) keep sizes entry args answers)
  early_handed keep hands sizes entry args answers =
      compose_within 2 1 (SourceAt m sizes entry args answers) (SourceAt m2 sizes entry args answers) (KeptAt m2 keep sizes entry args answers)
      (accepted_agree text m stands accepted sizes entry args answers)
      (handed_agrees m2 keep sizes entry args answers early_keeps early_definite early_named hands)
