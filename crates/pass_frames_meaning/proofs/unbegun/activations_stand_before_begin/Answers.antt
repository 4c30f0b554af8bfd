use Rattle.std.proofs.Common.{subst, sym}
use Rattle.pass_frames_meaning.proofs.called.CalledHooks.{renewed_keeps_called, states_called}
use Rattle.pass_frames_meaning.proofs.unbegun.Renewed.{renewed_keeps_unbegun}
use Rattle.pass_frames_meaning.proofs.unbegun.Unbegun.{states_unbegun, step_unbegun}
use Rattle.pass_frames_meaning.proofs.unbegun.activations_stand_before_begin.Goals as goal
use Rattle.pass_frames_meaning.specs.Unbegun.{IsUnbegunState}
use Rattle.pass_frames_proof.specs.pass_renewed_proof.Renewed.{renewed_step}
use Rattle.pass_renewed_meaning.proofs.run_hooks.Keeping.{renewed_keeps}
use Rattle.pass_renewed_meaning.proofs.run_hooks.PlacedKeeping.{renewed_keeps_placed}
use Rattle.pass_renewed_meaning.proofs.run_hooks.PlacedSteps.{states_placed}
use Rattle.pass_renewed_meaning.proofs.run_hooks.Steps.{renewed_steps, same_runs}
use Rattle.pass_renewed_meaning.specs.run_hooks.Hooks.{step_of}
use Rattle.pass_renewed_meaning.specs.run_hooks.Meanings.{renewed_hooks}
use Rattle.pass_frames_proof.specs.run_source.Source.{first_state}

pub returns-clause-step : goal.returns-clause-step
returns-clause-step c = step_unbegun

pub returns-clause-hooks : goal.returns-clause-hooks
returns-clause-hooks c = renewed_keeps_unbegun

pub returns-clause-renewed : goal.returns-clause-renewed
returns-clause-renewed c =
    λ g entry args n ok rules types.
    let e = same_runs (renewed_step g) (step_of (renewed_hooks g)) (renewed_steps g) n
    (first_state g.given.code entry args) in
    subst (IsUnbegunState g.given.code) (sym e) (states_unbegun (renewed_hooks g) (renewed_keeps_unbegun g) entry args
    (λ k. states_called (renewed_hooks g) (renewed_keeps_called g) types entry args
    (λ j. states_placed (renewed_hooks g) ok (renewed_keeps g) rules (renewed_keeps_placed g) entry args j) k) n)
