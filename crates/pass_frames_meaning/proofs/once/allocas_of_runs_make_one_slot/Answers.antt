use Rattle.std.proofs.Common.{subst, sym}
use Rattle.pass_frames_meaning.proofs.once.Renewed.{renewed_keeps_once}
use Rattle.pass_frames_meaning.proofs.once.Steps.{states_once, step_once}
use Rattle.pass_frames_meaning.proofs.once.allocas_of_runs_make_one_slot.Goals as goal
use Rattle.pass_frames_meaning.specs.Once.{IsOnceState}
use Rattle.pass_frames_proof.specs.pass_renewed_proof.Renewed.{renewed_step}
use Rattle.pass_renewed_meaning.proofs.run_hooks.Keeping.{renewed_keeps}
use Rattle.pass_renewed_meaning.proofs.run_hooks.Reaching.{states_reached}
use Rattle.pass_renewed_meaning.proofs.run_hooks.Steps.{renewed_steps, same_runs}
use Rattle.pass_renewed_meaning.specs.run_hooks.Hooks.{step_of}
use Rattle.pass_renewed_meaning.specs.run_hooks.Meanings.{renewed_hooks}
use Rattle.pass_frames_proof.specs.run_source.Source.{first_state}

pub returns-clause-step : goal.returns-clause-step
returns-clause-step c = step_once

pub returns-clause-hooks : goal.returns-clause-hooks
returns-clause-hooks c = renewed_keeps_once

pub returns-clause-renewed : goal.returns-clause-renewed
returns-clause-renewed c =
    λ g entry args switches allocas entries rules n.
    subst (IsOnceState g.given.code)
    (sym (same_runs (renewed_step g) (step_of (renewed_hooks g)) (renewed_steps g) n
    (first_state g.given.code entry args)))
    (states_once (renewed_hooks g) (renewed_keeps_once g) allocas entries rules entry args
    (λ k. states_reached (renewed_hooks g) switches (renewed_keeps g) entry args k) n)
