-- The states of a source that breaks no rule, and those after the first pass where coroutines' edges have blocks.
use Rattle.std.proofs.Common.{ℕ, List}
use Rattle.std.specs.Prelude.{ℤ, None}
use Rattle.pass_early_proof.proofs.run_agreement.Costs.{compose_by}
use Rattle.pass_early_proof.specs.run_agreement.Costs.{AgreesBy}
use Rattle.pass_early_proof.specs.run_agreement.Machines.{Machine}
use Rattle.pass_early_proof.specs.ir_base.declared.outcome.Word.{Word}
use Rattle.pass_early_proof.specs.run_source.declared.state.State.{State}
use Rattle.pass_early.specs.Early.{early_module}
use Rattle.pass_early_proof.proofs.early.early_states.Composition.{early_corresponds}
use Rattle.pass_early_proof.proofs.run_states.early_states.Scaled.{scale_by}
use Rattle.pass_early_proof.specs.early.early_states.Beside.{IsEarlyOf, IsNearlyEarlyOf, source_machine}
use Rattle.pass_early_proof.proofs.early.source_rules.Accepted.{all_named_keep}
use Rattle.pass_early_proof.proofs.rule_laws.rules.sources.Tables.{all_tabled}
use Rattle.pass_early_proof.proofs.rule_laws.texts.named_texts.Placed.{locals_named, uses_named}
use Rattle.pass_edges_proof.proofs.edges.simulation.Simulation.{edges_correspond}
use Rattle.pass_edges_proof.proofs.edges.sources.Accepted.{accepted_kept, locals_now}
use Rattle.pass_edges_proof.specs.edges.simulation.Beside.{IsEarlySplitOf, IsNearlyEarlySplitOf, IsNearlySplitOf, IsSplitOf}
use Rattle.pass_edges_proof.specs.edges.states.MovedState.{edges_split}
use Rattle.pass_early_proof.specs.rule_all.Refused.{IsRefused}
use Rattle.pass_early_proof.specs.text_grammar.Text.{StandsFor}
use Rattle.ir_model.specs.declared.module.Frame.{Frame}
use Rattle.ir_model.specs.declared.module.Module.{Module}
use Rattle.pass_early_proof.specs.rule_names.declared.stage.Stage.{Stage}

module _ (text : List ℕ) (m : Module) (stands : StandsFor text m) (accepted : IsRefused Stage.Source m None)
    (sizes : List Frame) (entry : ℕ) (args : List Word) (answers : List ℤ) where
  abbrev run : Module → Machine State
  run k = source_machine k sizes entry args answers

  abbrev early : Module
  early = early_module m

  pub accepted_corresponds : AgreesBy (IsEarlySplitOf m) (IsNearlyEarlySplitOf m sizes entry args answers) (run m)
      (λ s. 4) (run (edges_split early)) (λ t. 1)
  accepted_corresponds =
      compose_by (IsEarlyOf m) (IsNearlyEarlyOf m sizes entry args answers) (IsSplitOf early)
      (IsNearlySplitOf early sizes entry args answers) (run m) (λ s. 4) (run early) (λ s. 2)
      (run (edges_split early)) (λ t. 1)
      (scale_by (IsEarlyOf m) (IsNearlyEarlyOf m sizes entry args answers) (run m) (λ s. 2) (run early) (λ t. 1) 2
      (early_corresponds m (locals_named text m stands) (uses_named text m stands)
      (all_named_keep m accepted (all_tabled text m stands)) sizes entry args answers))
      (edges_correspond early (locals_now text m stands accepted) (accepted_kept text m stands accepted) sizes entry
      args answers)
