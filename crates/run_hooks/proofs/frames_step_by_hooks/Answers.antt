use Rattle.std.proofs.Common.{ap}
use Rattle.pass_renewed_proof.specs.run_source.declared.state.State.{State}
use Rattle.pass_renewed_proof.specs.run_step.Runs.{seen_of}
use Rattle.pass_renewed_proof.specs.run_source.Source.{first_state}
use Rattle.pass_renewed_proof.specs.run_framed.Framed.{framed_given, framed_step}
use Rattle.run_hooks.specs.Hooks.{step_of}
use Rattle.run_hooks.specs.Meanings.{framed_hooks}
use Rattle.run_hooks.proofs.Steps.{framed_steps, same_runs}
use Rattle.run_hooks.proofs.frames_step_by_hooks.Goals as goal

pub returns-clause-step : goal.returns-clause-step
returns-clause-step c = λ g s. framed_steps g s

pub returns-clause-seen : goal.returns-clause-seen
returns-clause-seen c =
    λ m layouts entry args answers n.
    let g = framed_given m layouts.coroutines answers in
    ap
    (λ (s : State). seen_of m s.world s.outcome)
    (same_runs (framed_step g) (step_of (framed_hooks g)) (framed_steps g) n (first_state m entry args))
