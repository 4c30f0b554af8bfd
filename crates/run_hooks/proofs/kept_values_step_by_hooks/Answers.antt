use Rattle.std.proofs.Common.{ap}
use Rattle.pass_renewed_proof.specs.run_source.declared.state.State.{State}
use Rattle.pass_renewed_proof.specs.run_step.Runs.{seen_of}
use Rattle.pass_renewed_proof.specs.run_source.Source.{first_state, given, step_by}
use Rattle.pass_renewed_proof.specs.pass_kept_proof.Kept.{continue_keeping}
use Rattle.run_hooks.specs.Hooks.{step_of}
use Rattle.run_hooks.specs.Meanings.{kept_hooks}
use Rattle.run_hooks.proofs.Steps.{same_runs, source_step}
use Rattle.run_hooks.proofs.kept_values_step_by_hooks.Goals as goal

pub returns-clause-step : goal.returns-clause-step
returns-clause-step c = λ g keep s. source_step g (continue_keeping g keep) s

pub returns-clause-seen : goal.returns-clause-seen
returns-clause-seen c =
    λ m keep sizes entry args answers n.
    let g = given m sizes answers in
    let go = continue_keeping g keep in
    ap
    (λ (s : State). seen_of m s.world s.outcome)
    (same_runs (step_by g go) (step_of (kept_hooks g keep)) (source_step g go) n (first_state m entry args))
