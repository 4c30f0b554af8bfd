-- Where the framed run makes a step of a known kind the run that gives frames makes steps of its own kinds.
use Rattle.std.proofs.Common.{sym, subst, ℕ, length}
use Rattle.pass_elide_kept.proofs.Beside.{HasBeside, of_beside, of_ready}
use Rattle.pass_elide_kept.proofs.Taken.{going_takes, ready_takes}
use Rattle.pass_elide_kept.specs.Modules.{KeepsHandlesAndEnds}
use Rattle.pass_elide_kept.specs.Runs.{IsKeptFramed, IsKeptGiving}
use Rattle.pass_elide_kept.specs.Steps.{TakesStep}
use Rattle.pass_elide_proof.proofs.CallersPlaces.{have_blocks, no_slots}
use Rattle.pass_elide_proof.proofs.FrontsMade.{fronts_made, places_ready}
use Rattle.pass_elide_proof.proofs.StepKinds.{one_more}
use Rattle.pass_elide_proof.specs.Callers.{HaveBlocks}
use Rattle.pass_elide_proof.specs.Calling.{AreReady, IsAtFront}
use Rattle.pass_elide_proof.specs.Elision.{Elision, elided, framed, function_in, rooms}
use Rattle.pass_elide_proof.specs.Match.{AreElided}
use Rattle.pass_elide_proof.specs.OwnSlots.{HaveNoSlots}
use Rattle.pass_elide_proof.specs.Places.{allocas_ahead}
use Rattle.pass_elide_proof.specs.Placing.{KeepsPlaces}
use Rattle.pass_elide_proof.specs.Stepping.{IsKnownStep, IsReadyFor, fronted, steps_of}
use Rattle.pass_elide_proof.specs.pass_proofs.run_agreement.Machines.{IsFine, iterate}
use Rattle.pass_elide_proof.specs.pass_proofs.run_framed.Framed.{framed_step}
use Rattle.pass_elide_proof.specs.pass_proofs.run_source.declared.state.State.{State}

-- what is known where the second run makes a step
pub record IsStepping (e : Elision) (s u : State) : Type 0 where
  pub takes : TakesStep e s u
  pub beside : HasBeside e s u
  pub slots : HaveNoSlots u
  pub blocks : HaveBlocks u
  pub giving : IsKeptGiving e u
  pub fine : IsFine (framed_step (elided e) u).outcome

module _ (e : Elision) (places : KeepsPlaces e) (keeps : KeepsHandlesAndEnds e) (s t : State)
    (ours : IsKeptFramed e s)
    (theirs : (n : ℕ) → IsKeptGiving e (iterate (framed_step (elided e)) n t)) (r : AreElided e s t)
    (fine : IsFine (framed_step (framed e) s).outcome) where
  going : (k : TakesStep e s t) → AreElided e (framed_step (framed e) s) (framed_step (elided e) t)
      → IsStepping e s t
  going k next = record {
    takes = k;
    beside = of_beside e s t r;
    slots = no_slots e s t r;
    blocks = have_blocks e s t r;
    giving = theirs 0;
    fine = subst IsFine (sym next.outcome) fine;
  }

  ready : (u : State) (q : AreReady e s u) → IsKeptGiving e u → IsReadyFor e s u q
      → AreElided e (framed_step (framed e) s) (framed_step (elided e) u) → IsStepping e s u
  ready u q giving k next = record {
    takes = ready_takes e places keeps s u ours giving q fine next k;
    beside = of_ready e s u q;
    slots = no_slots e s _ q.beside;
    blocks = have_blocks e s _ q.beside;
    giving = giving;
    fine = subst IsFine (sym next.outcome) fine;
  }

  -- what holds of the second state holds behind the step
  pub steps_keep : (P : State → Type 0) → P t → (IsAtFront e s t → P t → P (fronted e s t))
      → ((u : State) → IsStepping e s u → P u → P (framed_step (elided e) u)) → (k : IsKnownStep e s t r)
      → AreElided e (framed_step (framed e) s) (iterate (framed_step (elided e)) (steps_of e s t r k) t)
      → P (iterate (framed_step (elided e)) (steps_of e s t r k) t)
  steps_keep P here front step (IsKnownStep.Waiting at) next = here
  steps_keep P here front step (IsKnownStep.Going at) next =
      step t (going (going_takes e places keeps s t ours (theirs 0) r fine next at) next) here
  steps_keep P here front step (IsKnownStep.Standing at place) next =
      let q = places_ready e s t r at in
      step t (ready t q (theirs 0) (place q) next) here
  steps_keep P here front step (IsKnownStep.Fronting at place) next =
      let n = length (allocas_ahead (rooms e s.top.func) (function_in e s.top.func)) in
      let q = fronts_made e s t r at in
      let u = fronted e s t in
      subst P (sym (one_more e n t))
      (step u (ready u q (theirs n) (place q)
      (subst (AreElided e (framed_step (framed e) s)) (one_more e n t) next)) (front at here))
