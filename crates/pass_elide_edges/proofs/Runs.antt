-- What ends of blocks ask of the framed run holds of each of its states.
use Rattle.std.proofs.Common.{ℕ, List, subst, sym}
use Rattle.pass_elide_edges.specs.States.{EndsFramed}
use Rattle.pass_elide_proof.proofs.Allocas.{knows_allocas}
use Rattle.pass_elide_proof.proofs.PlacingKnown.{states_known}
use Rattle.pass_elide_proof.proofs.PlacingStarts.{begins_of}
use Rattle.pass_elide_proof.proofs.SoundSteps.{states_sound}
use Rattle.pass_elide_proof.specs.Elision.{Elision, framed}
use Rattle.pass_elide_proof.specs.Placing.{KeepsPlaces}
use Rattle.pass_elide_proof.specs.Sound.{NestsNone}
use Rattle.pass_elide_proof.specs.pass_proofs.ir_base.declared.outcome.Word.{Word}
use Rattle.pass_elide_proof.specs.pass_proofs.run_framed.Framed.{framed_state_at, framed_step}
use Rattle.pass_elide_proof.specs.pass_proofs.run_source.Source.{first_state}
use Rattle.run_hooks.proofs.Steps.{framed_steps, same_runs}
use Rattle.run_hooks.specs.Hooks.{step_of}
use Rattle.run_hooks.specs.Meanings.{framed_hooks}
use Rattle.run_slots.proofs.Meanings.{framed_keeps_slots}
use Rattle.run_slots.proofs.Steps.{states_slotted}
use Rattle.run_slots.specs.Slots.{IsSlottedState}

module _ (e : Elision) (keeps : KeepsPlaces e) (entry : ℕ) (args : List Word) (n : ℕ) where
  slotted : IsSlottedState (framed_state_at (framed e) entry args n)
  slotted =
      let same = same_runs (framed_step (framed e)) (step_of (framed_hooks (framed e))) (framed_steps (framed e)) n
      (first_state e.code entry args) in
      subst IsSlottedState (sym same)
      (states_slotted (framed_hooks (framed e)) (framed_keeps_slots (framed e) keeps.ungiven) entry args n)

  pub framed_ends : NestsNone (framed e) → EndsFramed e (framed_state_at (framed e) entry args n)
  framed_ends nests = record {
    known = states_known (framed e) (begins_of e keeps) entry args n;
    sound = states_sound (framed e) (knows_allocas e.code e.layouts.coroutines e.answers) nests entry args n;
    slotted = slotted;
  }
