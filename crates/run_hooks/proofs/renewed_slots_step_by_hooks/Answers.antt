use Rattle.std.proofs.Common.{ap}
use Rattle.pass_renewed_proof.specs.run_source.declared.state.State.{State}
use Rattle.pass_renewed_proof.specs.run_step.Runs.{seen_of}
use Rattle.pass_renewed_proof.specs.run_source.Source.{first_state}
use Rattle.pass_renewed_proof.specs.Renewed.{renewed_given, renewed_step}
use Rattle.run_hooks.specs.Hooks.{step_of}
use Rattle.run_hooks.specs.Meanings.{renewed_hooks}
use Rattle.run_hooks.proofs.Steps.{renewed_steps, same_runs}
use Rattle.run_hooks.proofs.renewed_slots_step_by_hooks.Goals as goal

pub returns-clause-step : goal.returns-clause-step
returns-clause-step c = λ g s. renewed_steps g s

pub returns-clause-seen : goal.returns-clause-seen
returns-clause-seen c =
    λ m keep flags roots sizes entry args answers n.
    let g = renewed_given m keep flags roots sizes answers in
    ap
    (λ (s : State). seen_of m s.world s.outcome)
    (same_runs (renewed_step g) (step_of (renewed_hooks g)) (renewed_steps g) n (first_state m entry args))
