use Rattle.std.proofs.Common.{subst, sym}
use Rattle.pass_frames_meaning.proofs.called.CalledHooks.{framed_keeps_called, renewed_keeps_called, states_called}
use Rattle.pass_frames_meaning.proofs.called.activations_of_runs_are_behind_calls.Goals as goal
use Rattle.pass_frames_meaning.specs.Called.{IsCalledState}
use Rattle.pass_frames_proof.specs.pass_renewed_proof.Renewed.{renewed_step}
use Rattle.pass_frames_proof.specs.run_framed.Framed.{framed_step}
use Rattle.pass_renewed_meaning.proofs.run_hooks.Keeping.{framed_keeps, renewed_keeps}
use Rattle.pass_renewed_meaning.proofs.run_hooks.PlacedKeeping.{framed_keeps_placed, renewed_keeps_placed}
use Rattle.pass_renewed_meaning.proofs.run_hooks.PlacedSteps.{states_placed}
use Rattle.pass_renewed_meaning.proofs.run_hooks.Steps.{framed_steps, renewed_steps, same_runs}
use Rattle.pass_renewed_meaning.specs.run_hooks.Hooks.{step_of}
use Rattle.pass_renewed_meaning.specs.run_hooks.Meanings.{framed_hooks, renewed_hooks}
use Rattle.pass_frames_proof.specs.run_source.Source.{first_state}

pub returns-clause-renewed : goal.returns-clause-renewed
returns-clause-renewed c =
    λ g entry args n ok rules types.
    let e = same_runs (renewed_step g) (step_of (renewed_hooks g)) (renewed_steps g) n
    (first_state g.given.code entry args) in
    subst (IsCalledState g.given.code) (sym e) (states_called (renewed_hooks g) (renewed_keeps_called g) types entry args
    (λ k. states_placed (renewed_hooks g) ok (renewed_keeps g) rules (renewed_keeps_placed g) entry args k) n)

pub returns-clause-framed : goal.returns-clause-framed
returns-clause-framed c =
    λ g entry args n ok rules types none.
    let e = same_runs (framed_step g) (step_of (framed_hooks g)) (framed_steps g) n
    (first_state g.given.code entry args) in
    subst (IsCalledState g.given.code) (sym e) (states_called (framed_hooks g) (framed_keeps_called g none) types entry
    args (λ k. states_placed (framed_hooks g) ok (framed_keeps g) rules (framed_keeps_placed g rules) entry args k) n)
