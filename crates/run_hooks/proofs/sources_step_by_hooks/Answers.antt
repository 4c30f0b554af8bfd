use Rattle.std.proofs.Common.{ap}
use Rattle.pass_renewed_proof.specs.run_source.declared.state.State.{State}
use Rattle.pass_renewed_proof.specs.run_step.Runs.{seen_of}
use Rattle.pass_renewed_proof.specs.run_source.Source.{continue, first_state, given, step}
use Rattle.run_hooks.specs.Hooks.{step_of}
use Rattle.run_hooks.specs.Meanings.{source_hooks}
use Rattle.run_hooks.proofs.Steps.{same_runs, source_step}
use Rattle.run_hooks.proofs.sources_step_by_hooks.Goals as goal

pub returns-clause-step : goal.returns-clause-step
returns-clause-step c = λ g s. source_step g (continue g) s

pub returns-clause-seen : goal.returns-clause-seen
returns-clause-seen c =
    λ m sizes entry args answers n.
    let g = given m sizes answers in
    ap
    (λ (s : State). seen_of m s.world s.outcome)
    (same_runs (step g) (step_of (source_hooks g)) (source_step g (continue g)) n (first_state m entry args))
