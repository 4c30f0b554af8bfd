-- What stays of an accepted source under the first pass: crossing values, classes of slots, elidable callees and sites, and rules.
use Rattle.std.proofs.Common.{◌≡◌, ℕ, Bool, true, false, List, None, refl, sym, ap, ◌∙◌, subst, ◌↔◌}
use Rattle.pass_early_proof.proofs.early.renaming.Composition.{early_in_turn}
use Rattle.run_states.proofs.renamed.Modules.{function_there}
use Rattle.pass_early_proof.proofs.early.renaming.Sameness.{mild as renamed_mild}
use Rattle.pass_early_proof.specs.early.renaming.Passes.{named_function, named_module, renamed_function, renamed_module}
use Rattle.pass_early_proof.proofs.early.begin_naming.NamedActs.{mild as named_mild}
use Rattle.pass_early_proof.specs.early.renaming.Regular.{AllKeepRules}
use Rattle.pass_early_proof.proofs.early.elision.early.Laws.{callees_of_source, sites_of_source}
use Rattle.pass_early_proof.proofs.early.frames.Functions.{classes_early, crossing_early}
use Rattle.pass_early_proof.proofs.early.frames.NoParams.{accepted_apart}
use Rattle.pass_early_proof.proofs.early.local_rules.Sources.{early_breaks_none}
use Rattle.pass_early.specs.Early.{early_module}
use Rattle.pass_early_proof.proofs.early.path_rules.Passes.{early_paths, early_shape, third, third_plain}
use Rattle.pass_early_proof.proofs.early.source_rules.Accepted.{all_named_keep}
use Rattle.rule_laws.specs.rules.source_rules.Named.{AreTabled}
use Rattle.rule_laws.proofs.rules.sources.Tables.{all_tabled}
use Rattle.rule_laws.specs.rules.sources.Rules.{BreaksNoOtherRule}
use Rattle.pass_early_proof.specs.early.elision.sources.Same.{AreAlikeBy, HaveSameClasses, HaveSameCrossing, HaveSameElision}
use Rattle.rule_laws.specs.rule_all.Refused.{IsRefused}
use Rattle.rule_laws.specs.text_grammar.Text.{StandsFor}
use Rattle.ir_model.specs.Names.{function_at}
use Rattle.ir_model.specs.declared.module.Function.{Function}
use Rattle.ir_model.specs.declared.module.Module.{Module}
use Rattle.rule_laws.specs.rule_names.declared.stage.Stage.{Stage}
use Rattle.rule_laws.proofs.texts.named_texts.Placed.{locals_named, uses_named}
use Rattle.pass_early_proof.proofs.early.saves.Parts.{function_saved}
use Rattle.pass_early_proof.specs.early.saves.SavesWritten.{saved_function}
use Rattle.rule_laws.specs.frame_classes.Classes.{AreClasses}
use Rattle.rule_laws.specs.ir_laws.facts.sound_states.Named.{AreLocalsNamed, AreUsesNamed}
use Rattle.rule_laws.specs.frame_crossing.Crossing.{AreCrossing}

-- ---- functions that are no coroutines

early_there : (m : Module) (func : ℕ) → function_at (early_module m) func ≡ third (function_at m func)
early_there m func =
    ap (λ (k : Module). function_at k func) (early_in_turn m)
    ∙ function_saved (renamed_module (named_module m)) func
    ∙ ap saved_function (function_there renamed_function renamed_mild (named_module m) refl func)
    ∙ ap (λ (f : Function). saved_function (renamed_function f)) (function_there named_function named_mild m refl func)

plain_there : (m : Module) (func : ℕ) → (function_at m func).coroutine ≡ false → function_at (early_module m) func ≡ function_at m func
plain_there m func e = early_there m func ∙ third_plain (function_at m func) e

-- what stays of coroutines stays of all functions
alike_by : (P : Function → Type 0) (m : Module) → ((func : ℕ) → (function_at m func).coroutine ≡ true → P (function_at m func) ↔ P (function_at (early_module m) func)) → AreAlikeBy P m (early_module m)
alike_by P m coroutines func = on (function_at m func).coroutine refl
  where
    on : (b : Bool) → (function_at m func).coroutine ≡ b → P (function_at m func) ↔ P (function_at (early_module m) func)
    on true e = coroutines func e
    on false e = subst (λ (f : Function). P (function_at m func) ↔ P f) (sym (plain_there m func e)) ((λ h. h), (λ h. h))

-- ---- sources that a text stands for and that break no rule

module _ (text : List ℕ) (m : Module) (stands : StandsFor text m) (accepted : IsRefused Stage.Source m None) where
  tabled : AreTabled m
  tabled = all_tabled text m stands

  locals : AreLocalsNamed m
  locals = locals_named text m stands

  uses : AreUsesNamed m
  uses = uses_named text m stands

  rules : AllKeepRules (named_module m)
  rules = all_named_keep m accepted tabled

  pub accepted_crossing : HaveSameCrossing m (early_module m)
  accepted_crossing all = alike_by (λ f. AreCrossing f all) m (λ func e. crossing_early m locals uses rules (accepted_apart m accepted locals) func e all)

  pub accepted_classes : HaveSameClasses m (early_module m)
  accepted_classes classes = alike_by (λ f. AreClasses f classes) m (λ func e. classes_early m locals uses rules (accepted_apart m accepted locals) func e classes)

  pub accepted_elision : HaveSameElision m (early_module m)
  accepted_elision = record {
    callees = callees_of_source m accepted tabled locals uses;
    sites = sites_of_source m accepted tabled locals uses;
  }

  pub accepted_rules : BreaksNoOtherRule (early_module m)
  accepted_rules = record {
    local = early_breaks_none m accepted tabled;
    shape = early_shape m accepted tabled locals uses;
    paths = early_paths m accepted tabled locals uses;
  }
