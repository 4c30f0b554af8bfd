use Rattle.std.proofs.Common.{◌≡◌, ℕ, subst, sym}
use Rattle.pass_frames_meaning.proofs.called.CalledHooks.{renewed_keeps_called, states_called}
use Rattle.pass_frames_meaning.proofs.led.LedHooks.{renewed_keeps_led, states_led}
use Rattle.pass_frames_meaning.proofs.led.SoundRuns.{runs_sound}
use Rattle.pass_frames_meaning.proofs.led.names_of_runs_lead_to_slots.Goals as goal
use Rattle.pass_frames_meaning.specs.Led.{IsLedState}
use Rattle.pass_frames_proof.specs.pass_renewed_proof.Renewed.{renewed_step}
use Rattle.pass_renewed_meaning.proofs.run_hooks.Keeping.{renewed_keeps}
use Rattle.pass_renewed_meaning.proofs.run_hooks.PlacedKeeping.{renewed_keeps_placed}
use Rattle.pass_renewed_meaning.proofs.run_hooks.PlacedSteps.{states_placed}
use Rattle.pass_renewed_meaning.proofs.run_hooks.Reaching.{states_reached}
use Rattle.pass_renewed_meaning.proofs.run_hooks.Steps.{renewed_steps, same_runs}
use Rattle.pass_renewed_meaning.specs.run_hooks.Hooks.{step_of}
use Rattle.pass_renewed_meaning.specs.run_hooks.Meanings.{renewed_hooks}
use Rattle.pass_frames_proof.specs.run_source.Source.{first_state}
use Rattle.pass_frames_proof.specs.run_source.declared.state.State.{State}
use Rattle.pass_frames_proof.specs.run_states.sound_states.Sound.{HasValues}
use Rattle.pass_frames_proof.specs.run_step.Runs.{iterate}

pub returns : goal.returns
returns c =
    λ g counts entry args ok places types names rules tables n.
    let first = first_state g.given.code entry args in
    let e : (k : ℕ) → iterate (renewed_step g) k first ≡ iterate (step_of (renewed_hooks g)) k first =
    λ k. same_runs (renewed_step g) (step_of (renewed_hooks g)) (renewed_steps g) k first in
    subst (IsLedState g.given.code counts) (sym (e n)) (states_led (renewed_hooks g) counts
    (renewed_keeps_led g counts rules tables) rules types entry args
    (λ k. states_reached (renewed_hooks g) ok (renewed_keeps g) entry args k)
    (λ k. states_called (renewed_hooks g) (renewed_keeps_called g) types entry args
    (λ j. states_placed (renewed_hooks g) ok (renewed_keeps g) places (renewed_keeps_placed g) entry args j) k)
    (λ k. subst (λ (s : State). HasValues g.given.code s.top.func s.top.values) (e k)
    (runs_sound g entry args ok places types names k).top.values) n)
