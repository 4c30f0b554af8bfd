-- Each state of a run that makes slots anew is sound.
use Rattle.std.proofs.Common.{ℕ, List, subst, sym}
use Rattle.pass_frames_proof.specs.ir_base.declared.outcome.Word.{Word}
use Rattle.pass_frames_proof.specs.ir_laws.facts.sound_states.Named.{AreLocalsNamed}
use Rattle.pass_frames_meaning.proofs.called.CalledHooks.{renewed_keeps_called, states_called}
use Rattle.pass_frames_meaning.proofs.led.Sound.{states_both}
use Rattle.pass_frames_meaning.specs.Called.{IsCalledState}
use Rattle.pass_frames_proof.specs.pass_renewed_proof.Renewed.{RenewedGiven, renewed_step}
use Rattle.pass_renewed_meaning.proofs.run_hooks.Keeping.{renewed_keeps}
use Rattle.pass_renewed_meaning.proofs.run_hooks.PlacedKeeping.{renewed_keeps_placed}
use Rattle.pass_renewed_meaning.proofs.run_hooks.PlacedSteps.{states_placed}
use Rattle.pass_renewed_meaning.proofs.run_hooks.Steps.{renewed_steps, same_runs}
use Rattle.pass_renewed_meaning.specs.run_hooks.Away.{IsPlacedState, KeepsAllPlaceRules}
use Rattle.pass_renewed_meaning.specs.run_hooks.Hooks.{step_of}
use Rattle.pass_renewed_meaning.specs.run_hooks.Meanings.{renewed_hooks}
use Rattle.pass_renewed_meaning.specs.run_hooks.Reached.{AllHaveSwitches}
use Rattle.pass_frames_proof.specs.run_source.Source.{first_state}
use Rattle.pass_frames_proof.specs.run_states.sound_states.Sound.{IsSound}
use Rattle.pass_frames_proof.specs.run_step.Runs.{iterate}
use Rattle.pass_renewed_meaning.specs.run_types.Rules.{KeepsAllTypes}

module _ (g : RenewedGiven) (entry : ℕ) (args : List Word) (ok : AllHaveSwitches g.given.code)
    (places : KeepsAllPlaceRules g.given) (types : KeepsAllTypes g.given.code) where
  placed : (n : ℕ) → IsPlacedState (renewed_hooks g)
      (iterate (renewed_step g) n (first_state g.given.code entry args))
  placed n =
      subst (IsPlacedState (renewed_hooks g)) (sym (same_runs (renewed_step g) (step_of (renewed_hooks g))
      (renewed_steps g) n (first_state g.given.code entry args)))
      (states_placed (renewed_hooks g) ok (renewed_keeps g) places (renewed_keeps_placed g) entry args n)

  called : (n : ℕ) → IsCalledState g.given.code (iterate (renewed_step g) n (first_state g.given.code entry args))
  called n =
      subst (IsCalledState g.given.code) (sym (same_runs (renewed_step g) (step_of (renewed_hooks g))
      (renewed_steps g) n (first_state g.given.code entry args)))
      (states_called (renewed_hooks g) (renewed_keeps_called g) types entry args
      (λ k. states_placed (renewed_hooks g) ok (renewed_keeps g) places (renewed_keeps_placed g) entry args k) n)

  pub runs_sound : AreLocalsNamed g.given.code → (n : ℕ)
      → IsSound g.given.code (iterate (renewed_step g) n (first_state g.given.code entry args))
  runs_sound names n = (states_both g names entry args called placed n).0
