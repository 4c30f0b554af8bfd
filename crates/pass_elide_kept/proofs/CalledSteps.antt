-- Activations have what their calls gave where the framed run makes a step of a known kind.
use Rattle.std.proofs.Common.{ℕ}
use Rattle.pass_elide_kept.specs.Modules.{KeepsHandlesAndEnds}
use Rattle.pass_elide_kept.specs.Runs.{IsKeptFramed, IsKeptGiving}
use Rattle.pass_elide_proof.specs.CallersStack.{AreCalled}
use Rattle.pass_elide_proof.specs.Elision.{Elision, elided, framed}
use Rattle.pass_elide_proof.specs.Match.{AreElided}
use Rattle.pass_elide_proof.specs.Placing.{KeepsPlaces}
use Rattle.pass_elide_proof.specs.Stepping.{IsKnownStep, steps_of}
use Rattle.pass_elide_proof.specs.pass_proofs.run_agreement.Machines.{IsFine, iterate}
use Rattle.pass_elide_proof.specs.pass_proofs.run_framed.Framed.{framed_step}
use Rattle.pass_elide_proof.specs.pass_proofs.run_source.declared.state.State.{State}
use Rattle.pass_elide_kept.proofs.Stepped.{steps_keep}
use Rattle.pass_elide_kept.proofs.Fronted.{fronts_known}
use Rattle.pass_elide_kept.proofs.KnownCalls.{stays_known}

module _ (e : Elision) (places : KeepsPlaces e) (keeps : KeepsHandlesAndEnds e) (s t : State)
    (ours : IsKeptFramed e s)
    (theirs : (n : ℕ) → IsKeptGiving e (iterate (framed_step (elided e)) n t)) (r : AreElided e s t)
    (fine : IsFine (framed_step (framed e) s).outcome) where
  pub known_steps_call : AreCalled e t → (k : IsKnownStep e s t r)
      → AreElided e (framed_step (framed e) s) (iterate (framed_step (elided e)) (steps_of e s t r k) t)
      → AreCalled e (iterate (framed_step (elided e)) (steps_of e s t r k) t)
  known_steps_call h =
      steps_keep e places keeps s t ours theirs r fine (AreCalled e) h (λ at. fronts_known e s t r at)
      (λ u k here. stays_known e places keeps s u ours.known k.beside here k.takes)
