use Rattle.std.proofs.Common.{◌≡◌, ℕ, subst, sym}
use Rattle.pass_frames_meaning.proofs.anew.Anew.{states_anew, step_anew}
use Rattle.pass_frames_meaning.proofs.anew.Renewed.{renewed_keeps_anew}
use Rattle.pass_frames_meaning.proofs.anew.slots_made_anew_have_addresses.Goals as goal
use Rattle.pass_frames_meaning.proofs.called.CalledHooks.{renewed_keeps_called, states_called}
use Rattle.pass_frames_meaning.proofs.led.SoundRuns.{runs_sound}
use Rattle.pass_frames_meaning.specs.Anew.{IsAnewState}
use Rattle.pass_frames_proof.specs.pass_renewed_proof.Renewed.{renewed_step}
use Rattle.pass_renewed_meaning.proofs.run_hooks.Keeping.{renewed_keeps}
use Rattle.pass_renewed_meaning.proofs.run_hooks.PlacedKeeping.{renewed_keeps_placed}
use Rattle.pass_renewed_meaning.proofs.run_hooks.PlacedSteps.{states_placed}
use Rattle.pass_renewed_meaning.proofs.run_hooks.Steps.{renewed_steps, same_runs}
use Rattle.pass_renewed_meaning.specs.run_hooks.Hooks.{step_of}
use Rattle.pass_renewed_meaning.specs.run_hooks.Meanings.{renewed_hooks}
use Rattle.pass_frames_proof.specs.run_source.Source.{first_state}
use Rattle.pass_frames_proof.specs.run_source.declared.state.State.{State}
use Rattle.pass_frames_proof.specs.run_step.Runs.{iterate}
use Rattle.pass_frames_proof.specs.run_states.sound_states.Sound.{HasValues}

pub returns-clause-step : goal.returns-clause-step
returns-clause-step c = step_anew

pub returns-clause-hooks : goal.returns-clause-hooks
returns-clause-hooks c = renewed_keeps_anew

pub returns-clause-renewed : goal.returns-clause-renewed
returns-clause-renewed c =
    λ g entry args ok rules types names free n.
    let e : (k : ℕ) → iterate (renewed_step g) k (first_state g.given.code entry args)
    ≡ iterate (step_of (renewed_hooks g)) k (first_state g.given.code entry args) =
    λ k. same_runs (renewed_step g) (step_of (renewed_hooks g)) (renewed_steps g) k
    (first_state g.given.code entry args) in
    subst (IsAnewState g.given.code g.flags) (sym (e n))
    (states_anew (renewed_hooks g) g.flags (renewed_keeps_anew g) names free types entry args
    (λ k. states_called (renewed_hooks g) (renewed_keeps_called g) types entry args
    (λ j. states_placed (renewed_hooks g) ok (renewed_keeps g) rules (renewed_keeps_placed g) entry args j) k)
    (λ k. subst (λ (s : State). HasValues g.given.code s.top.func s.top.values) (e k)
    (runs_sound g entry args ok rules types names k).top.values) n)
