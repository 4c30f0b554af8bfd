use Rattle.std.proofs.Common.{subst, sym}
use Rattle.pass_frames_meaning.proofs.pointers.Acts.{step_points}
use Rattle.pass_frames_meaning.proofs.pointers.Renewed.{renewed_keeps_pointing}
use Rattle.pass_frames_meaning.proofs.pointers.Runs.{states_point}
use Rattle.pass_frames_meaning.proofs.pointers.values_of_pointers_are_addresses.Goals as goal
use Rattle.pass_frames_meaning.specs.Pointers.{IsPointingState}
use Rattle.pass_frames_proof.specs.pass_renewed_proof.Renewed.{renewed_step}
use Rattle.pass_renewed_meaning.proofs.run_hooks.Keeping.{renewed_keeps}
use Rattle.pass_renewed_meaning.proofs.run_hooks.Steps.{renewed_steps, same_runs}
use Rattle.pass_renewed_meaning.specs.run_hooks.Hooks.{step_of}
use Rattle.pass_renewed_meaning.specs.run_hooks.Meanings.{renewed_hooks}
use Rattle.pass_frames_proof.specs.run_source.Source.{first_state}

pub returns-clause-step : goal.returns-clause-step
returns-clause-step c = λ h rules keeps s reached k. step_points h rules keeps s k reached

pub returns-clause-hooks : goal.returns-clause-hooks
returns-clause-hooks c = renewed_keeps_pointing

pub returns-clause-renewed : goal.returns-clause-renewed
returns-clause-renewed c =
    λ g entry args n ok types given.
    let e = same_runs (renewed_step g) (step_of (renewed_hooks g)) (renewed_steps g) n
    (first_state g.given.code entry args) in
    subst (IsPointingState g.given.code) (sym e) (states_point (renewed_hooks g) ok (renewed_keeps g) types
    (renewed_keeps_pointing g types) entry args n given)
