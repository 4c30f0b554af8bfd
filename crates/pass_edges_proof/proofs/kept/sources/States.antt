-- The states of a source that breaks no rule, and those where a resume hands on only what is needed behind it.
use Rattle.std.proofs.Common.{ℕ, List}
use Rattle.std.specs.Prelude.{ℤ, None}
use Rattle.pass_early_proof.proofs.run_agreement.Costs.{compose_by}
use Rattle.pass_early_proof.specs.run_agreement.Costs.{AgreesBy}
use Rattle.pass_early_proof.specs.ir_base.declared.outcome.Word.{Word}
use Rattle.pass_early_proof.specs.run_source.Source.{given}
use Rattle.pass_early.specs.Early.{early_module}
use Rattle.pass_edges_proof.proofs.edges.sources.States.{accepted_corresponds}
use Rattle.pass_edges_proof.specs.edges.simulation.Beside.{IsEarlySplitOf, IsNearlyEarlySplitOf}
use Rattle.pass_edges_proof.specs.edges.states.MovedState.{edges_split}
use Rattle.pass_early_proof.specs.rule_all.Refused.{IsRefused}
use Rattle.pass_early_proof.specs.text_grammar.Text.{StandsFor}
use Rattle.ir_model.specs.declared.module.Frame.{Frame}
use Rattle.ir_model.specs.declared.module.Module.{Module}
use Rattle.pass_edges_proof.proofs.kept.sources.Whole.{split_keeps}
use Rattle.pass_edges_proof.specs.kept.sources.Beside.{IsKeptOf, IsNearlyKeptOf}
use Rattle.pass_kept_proof.proofs.Main.{kept_corresponds}
use Rattle.pass_kept_proof.specs.Kept.{Keep}
use Rattle.pass_kept_proof.specs.Machines.{kept_machine, source_machine}
use Rattle.pass_kept_proof.specs.Related.{HandsOver}
use Rattle.pass_kept_proof.specs.SuspendRules.{KeepsNeeded}
use Rattle.pass_early_proof.specs.rule_names.declared.stage.Stage.{Stage}

module _ (text : List ℕ) (m : Module) (stands : StandsFor text m) (accepted : IsRefused Stage.Source m None) where
  abbrev split : Module
  split = edges_split (early_module m)

  pub split_corresponds : (keep : Keep) → KeepsNeeded split keep
      → (sizes : List Frame) (entry : ℕ) (args : List Word) (answers : List ℤ)
      → AgreesBy (IsKeptOf m sizes answers) (IsNearlyKeptOf m sizes entry args answers)
      (source_machine m sizes entry args answers) (λ s. 4) (kept_machine split keep sizes entry args answers) (λ t. 1)
  split_corresponds keep keeps sizes entry args answers =
      compose_by (IsEarlySplitOf m) (IsNearlyEarlySplitOf m sizes entry args answers)
      (HandsOver (given split sizes answers)) (HandsOver (given split sizes answers))
      (source_machine m sizes entry args answers) (λ s. 4) (source_machine split sizes entry args answers)
      (λ s. 1) (kept_machine split keep sizes entry args answers) (λ t. 1)
      (accepted_corresponds text m stands accepted sizes entry args answers)
      (kept_corresponds split keep sizes entry args answers (split_keeps text m stands accepted) keeps)
