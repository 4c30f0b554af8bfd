-- Activations pass by where the framed run makes a step of a known kind.
use Rattle.std.proofs.Common.{ℕ}
use Rattle.pass_elide_kept.specs.Modules.{KeepsHandlesAndEnds}
use Rattle.pass_elide_kept.specs.Runs.{IsKeptFramed, IsKeptGiving}
use Rattle.pass_elide_proof.specs.Elision.{Elision, elided, framed}
use Rattle.pass_elide_proof.specs.Match.{AreElided}
use Rattle.pass_elide_proof.specs.Placing.{KeepsPlaces}
use Rattle.pass_elide_proof.specs.PlacingStates.{HavePassedBy}
use Rattle.pass_elide_proof.specs.Stepping.{IsKnownStep, fronted, steps_of}
use Rattle.pass_elide_proof.specs.pass_proofs.run_agreement.Machines.{IsFine, iterate}
use Rattle.pass_elide_proof.specs.pass_proofs.run_framed.Framed.{framed_step}
use Rattle.pass_elide_proof.specs.pass_proofs.run_source.declared.state.State.{State}
use Rattle.pass_elide_kept.proofs.Stepped.{steps_keep}
use Rattle.pass_elide_kept.proofs.Fronted.{is_fronted}
use Rattle.pass_elide_kept.proofs.PassedBack.{stays_passed}
use Rattle.pass_elide_kept.proofs.Passing.{fronts_pass}

module _ (e : Elision) (places : KeepsPlaces e) (keeps : KeepsHandlesAndEnds e) (s t : State)
    (ours : IsKeptFramed e s)
    (theirs : (n : ℕ) → IsKeptGiving e (iterate (framed_step (elided e)) n t)) (r : AreElided e s t)
    (fine : IsFine (framed_step (framed e) s).outcome) where
  pub known_steps_pass : HavePassedBy e t → (k : IsKnownStep e s t r)
      → AreElided e (framed_step (framed e) s) (iterate (framed_step (elided e)) (steps_of e s t r k) t)
      → HavePassedBy e (iterate (framed_step (elided e)) (steps_of e s t r k) t)
  known_steps_pass h =
      steps_keep e places keeps s t ours theirs r fine (HavePassedBy e) h
      (λ at. fronts_pass e t (fronted e s t) (is_fronted e s t r at))
      (λ u k here. stays_passed e places keeps s u k.giving k.slots k.blocks k.fine here k.takes)
