-- A source that a text stands for and that breaks no rule keeps after the first pass all that blocks on edges ask of it.
use Rattle.std.proofs.Common.{◌≡◌, ℕ, Bool, true, false, List, refl, sym, ap, ◌∙◌, subst}
use Rattle.std.specs.Prelude.{ℤ, Some, None, Option, slice_get, unwrap_or, if◌then◌else◌}
use Rattle.pass_early_proof.proofs.run_agreement.Compose.{compose_within}
use Rattle.pass_early_proof.specs.run_agreement.Agreements.{AgreesWithin}
use Rattle.pass_early_proof.specs.run_agreement.Machines.{Seen}
use Rattle.pass_early_proof.specs.ir_base.declared.outcome.Word.{Word}
use Rattle.pass_early_proof.specs.run_source.Source.{SourceAt}
use Rattle.pass_early_proof.proofs.early.renaming.Composition.{early_in_turn}
use Rattle.pass_early_proof.specs.early.renaming.Passes.{named_module, renamed_module}
use Rattle.pass_early_proof.proofs.early.local_rules.Names.{early_once}
use Rattle.pass_early.specs.BeginName.{with_begin_name}
use Rattle.pass_early.specs.Early.{early_function, early_module, early_named, renaming_of}
use Rattle.pass_early_proof.proofs.early.meaning.Names.{named_locals, renamed_locals}
use Rattle.pass_early_proof.proofs.early.path_rules.Passes.{early_shape}
use Rattle.pass_early_proof.proofs.early.path_rules.RenamedOperands.{map_was}
use Rattle.pass_early_proof.specs.rule_laws.rules.path_rules.Shape.{KeepsShape}
use Rattle.pass_early_proof.proofs.rule_laws.rules.source_rules.Order.{IsUnbroken, unbroken}
use Rattle.pass_early_proof.specs.rule_laws.rules.source_rules.Named.{HasTabledLocals}
use Rattle.pass_early_proof.proofs.early.sources.Accepted.{accepted_agree}
use Rattle.pass_early_proof.proofs.rule_laws.rules.sources.Tables.{all_tabled}
use Rattle.pass_early_proof.specs.ir_laws.paths.threads.Labels.{HasNamedLabels}
use Rattle.pass_edges_proof.proofs.edges.simulation.Simulation.{edges_agree}
use Rattle.pass_early_proof.proofs.early.labels.Labels.{labels_early, labels_named, text_labels}
use Rattle.pass_edges_proof.proofs.edges.sources.Rules.{rules_kept}
use Rattle.pass_edges_proof.specs.edges.states.MovedState.{AreEdgesKept, Keeps, edges_split}
use Rattle.pass_early_proof.specs.rule_all.Refused.{IsRefused}
use Rattle.pass_early_proof.specs.text_grammar.Text.{StandsFor}
use Rattle.ir_model.specs.Calls.{first_result}
use Rattle.ir_model.specs.Names.{function_at, no_function}
use Rattle.ir_model.specs.declared.module.Frame.{Frame}
use Rattle.ir_model.specs.declared.module.Function.{Function}
use Rattle.ir_model.specs.declared.module.Module.{Module}
use Rattle.ir_model.specs.declared.operand.Intrinsic.{Intrinsic}
use Rattle.pass_early_proof.specs.rule_names.declared.stage.Stage.{Stage}
use Rattle.pass_early_proof.proofs.rule_laws.texts.named_texts.Placed.{locals_named, uses_named}
use Rattle.pass_early_proof.proofs.early.save_simulation.Tables.{locals_stay_named}
use Rattle.pass_early_proof.specs.ir_laws.facts.sound_states.Named.{AreLocalsNamed}

-- ---- functions

-- what the first pass makes of a function
function_kept : (m : Module) (func : ℕ) (f : Function) → IsUnbroken m func f → (f.coroutine ≡ true → HasTabledLocals func f) → HasNamedLabels f → KeepsShape func (early_function f) → Keeps (early_function f)
function_kept m func f unbroken tabled labels shape = on f.coroutine refl shape
  where
    on : (b : Bool) → f.coroutine ≡ b → KeepsShape func (if b then early_named (with_begin_name f) else f) → Keeps (if b then early_named (with_begin_name f) else f)
    on true is h e =
        rules_kept func (early_named (with_begin_name f)) e
        (labels_early (with_begin_name f) (renaming_of (with_begin_name f)) (labels_named f (first_result Intrinsic.CoroBegin f) labels))
        (early_once m func f is unbroken (tabled is)) h.edges h.switches
    on false is h e = let t : false ≡ true = sym is ∙ e in absurd (cc)

-- ---- modules

module _ (text : List ℕ) (m : Module) (stands : StandsFor text m) (accepted : IsRefused Stage.Source m None) where
  tabled_there : (func : ℕ) (f : Function) → slice_get m.functions func ≡ Some f → f.coroutine ≡ true → HasTabledLocals func f
  tabled_there func f there is =
      let same : function_at m func ≡ f = ap (λ (o : Option Function). unwrap_or o no_function) there in
      subst (HasTabledLocals func) same (all_tabled text m stands func (ap (λ (x : Function). x.coroutine) same ∙ is))

  there_kept : (func : ℕ) (g : Function) → slice_get (early_module m).functions func ≡ Some g → Keeps g
  there_kept func g e =
      let x = map_was early_function m.functions func g e in
      let shape = early_shape m accepted (all_tabled text m stands) (locals_named text m stands) (uses_named text m stands) func g e in
      subst Keeps (sym x.1.1)
      (function_kept m func x.0 (unbroken m func x.0 accepted x.1.0) (tabled_there func x.0 x.1.0) (text_labels text m stands func x.0 x.1.0) (subst (KeepsShape func) x.1.1 shape))

  pub accepted_kept : AreEdgesKept (early_module m)
  accepted_kept func = on (slice_get (early_module m).functions func) refl
    where
      on : (o : Option Function) → slice_get (early_module m).functions func ≡ o → Keeps (unwrap_or o no_function)
      on None e = λ c. absurd (cc)
      on (Some g) e = there_kept func g e

  pub locals_now : AreLocalsNamed (early_module m)
  locals_now =
      subst AreLocalsNamed (sym (early_in_turn m))
      (locals_stay_named (renamed_module (named_module m)) (renamed_locals (named_module m) (named_locals m (locals_named text m stands))))

  module _ (sizes : List Frame) (entry : ℕ) (args : List Word) (answers : List ℤ) where
    abbrev runs : Module → ℕ → Seen
    runs k = SourceAt k sizes entry args answers

    pub accepted_agree_split : AgreesWithin 4 (runs m) (runs (edges_split (early_module m)))
    accepted_agree_split =
        compose_within 2 2 (runs m) (runs (early_module m)) (runs (edges_split (early_module m)))
        (accepted_agree text m stands accepted sizes entry args answers)
        (edges_agree (early_module m) locals_now accepted_kept sizes entry args answers)
