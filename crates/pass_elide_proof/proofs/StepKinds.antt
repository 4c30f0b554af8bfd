-- One step of the framed run is followed, wherever it stands at a place of a kind that has a law.
use Rattle.std.proofs.Common.{◌≡◌, ◌+◌, ◌≤◌, inl, inr, ℕ, zero, suc, length, refl, sym, subst, arith}
use Rattle.pass_elide_proof.proofs.AgainSteps.{allocas_again_stay_beside}
use Rattle.pass_elide_proof.proofs.Allocated.{waits as allocation_waits}
use Rattle.pass_elide_proof.proofs.AskingSteps.{asking_goes}
use Rattle.pass_elide_proof.proofs.AsideSteps.{addresses_go, loads_go}
use Rattle.pass_elide_proof.proofs.Begins.{begin_beside}
use Rattle.pass_elide_proof.proofs.Calls.{calls_beside}
use Rattle.pass_elide_proof.proofs.Constants.{asked_beside, constant_beside}
use Rattle.pass_elide_proof.proofs.Done.{done_beside}
use Rattle.pass_elide_proof.proofs.EarlyEnds.{early_end}
use Rattle.pass_elide_proof.proofs.EdgeAsked.{asks_alone}
use Rattle.pass_elide_proof.proofs.EdgeBeside.{goes_beside}
use Rattle.pass_elide_proof.proofs.EdgeFreed.{frees_aside, frees_straight}
use Rattle.pass_elide_proof.proofs.EdgeLeaving.{leaves_beside}
use Rattle.pass_elide_proof.proofs.EdgeMeeting.{meets}
use Rattle.pass_elide_proof.proofs.EdgePassed.{goes_aside}
use Rattle.pass_elide_proof.proofs.EdgeTested.{tests_alone}
use Rattle.pass_elide_proof.proofs.EndsRamp.{ramp_ends}
use Rattle.pass_elide_proof.proofs.EndsResumed.{resumed_ends}
use Rattle.pass_elide_proof.proofs.Frees.{free_beside}
use Rattle.pass_elide_proof.proofs.FreesTogether.{frees_together}
use Rattle.pass_elide_proof.proofs.FreesWaited.{waits as free_waits, goes_beside as null_beside}
use Rattle.pass_elide_proof.proofs.FrontsMade.{fronts_made, places_ready}
use Rattle.pass_elide_proof.proofs.GivenBegins.{given_begin_beside}
use Rattle.pass_elide_proof.proofs.GivenValues.{ramps_go_on, resumed_lead_back}
use Rattle.pass_elide_proof.proofs.LastAgain.{last_goes}
use Rattle.pass_elide_proof.proofs.MakingSteps.{block_goes, slot_goes}
use Rattle.pass_elide_proof.proofs.MarkingSteps.{deallocation_goes, marker_goes}
use Rattle.pass_elide_proof.proofs.NullTests.{test_beside}
use Rattle.pass_elide_proof.proofs.OrdinarySteps.{goes}
use Rattle.pass_elide_proof.proofs.PassedAlone.{passes}
use Rattle.pass_elide_proof.proofs.Promised.{promise_beside}
use Rattle.pass_elide_proof.proofs.Returns.{returns_beside, runs_return}
use Rattle.pass_elide_proof.proofs.Saves.{save_beside, suspend_beside}
use Rattle.pass_elide_proof.proofs.SiteCalls.{sites_called}
use Rattle.pass_elide_proof.proofs.Sized.{made_waits, waits as size_waits}
use Rattle.pass_elide_proof.proofs.Woken.{waking_beside}
use Rattle.pass_elide_proof.specs.Calling.{AreReady}
use Rattle.pass_elide_proof.specs.Elision.{Elision, elided, framed, function_in, rooms}
use Rattle.pass_elide_proof.specs.Match.{AreElided}
use Rattle.pass_elide_proof.specs.Places.{allocas_ahead}
use Rattle.pass_elide_proof.specs.Stepping.{AreBesideOrOver, IsAccompanied, IsKnownStep, IsReadyFor, IsWaitedFor, fronted, steps_of}
use Rattle.pass_proofs.proofs.run_agreement.Runs.{iterate-add}
use Rattle.pass_proofs.specs.run_agreement.Machines.{IsFine, iterate}
use Rattle.pass_proofs.specs.run_framed.Framed.{framed_step}
use Rattle.pass_proofs.specs.run_source.declared.state.State.{State}

-- ---- kinds of places

pub waited : (e : Elision) (s t : State) → AreElided e s t → IsWaitedFor e s t
    → AreElided e (framed_step (framed e) s) t
waited e s t r (IsWaitedFor.Size i result must_tail ty args at) = size_waits e s t i result must_tail ty args r at
waited e s t r (IsWaitedFor.Allocation a result must_tail ty args at) =
    allocation_waits e s t a result must_tail ty args r at
waited e s t r (IsWaitedFor.Made result w i there at) = made_waits e s t result w r at
waited e s t r (IsWaitedFor.Question k label at) = asks_alone e s t r k label at
waited e s t r (IsWaitedFor.Test k label at) = tests_alone e s t r k label at
waited e s t r (IsWaitedFor.Free a result must_tail ty args at) = free_waits e s t a result must_tail ty args r at
waited e s t r (IsWaitedFor.Passed result w i there at) = passes e s t result w r at

pub accompanied : (e : Elision) (s t : State) (r : AreElided e s t) → IsFine (framed_step (framed e) s).outcome
    → IsAccompanied e s t r → AreElided e (framed_step (framed e) s) (framed_step (elided e) t)
accompanied e s t r fine (IsAccompanied.Constant i result must_tail ty args at) =
    constant_beside e s t i result must_tail ty args r at
accompanied e s t r fine (IsAccompanied.Memory result must_tail ty args at) =
    asked_beside e s t result must_tail ty args r at
accompanied e s t r fine (IsAccompanied.Begin result must_tail ty args at) =
    begin_beside e s t result must_tail ty args r fine at
accompanied e s t r fine (IsAccompanied.GivenBegin result must_tail ty args at) =
    given_begin_beside e s t r result must_tail ty args fine at
accompanied e s t r fine (IsAccompanied.Freeing result must_tail ty args at) =
    free_beside e s t result must_tail ty args r at
accompanied e s t r fine (IsAccompanied.NullTest name pred a b at) = test_beside e s t name pred a b r at
accompanied e s t r fine (IsAccompanied.FreeOfNull a result must_tail ty args at) =
    null_beside e s t a result must_tail ty args r at
accompanied e s t r fine (IsAccompanied.FreeBeside a result must_tail ty args at) =
    frees_together e s t a result must_tail ty args t.top.at r at
accompanied e s t r fine (IsAccompanied.Save result must_tail ty args at) =
    save_beside e s t result must_tail ty args r fine at
accompanied e s t r fine (IsAccompanied.Suspend result must_tail ty args at) =
    suspend_beside e s t result must_tail ty args r fine at
accompanied e s t r fine (IsAccompanied.Exit label at) = leaves_beside e s t r label at
accompanied e s t r fine (IsAccompanied.WayOn k label at) = goes_aside e s t r k label at
accompanied e s t r fine (IsAccompanied.Meeting label to alike at) = meets e s t r alike label to at
accompanied e s t r fine (IsAccompanied.FreedAside k label at x) = frees_aside e s t r k label at x
accompanied e s t r fine (IsAccompanied.FreedStraight k label at same) = frees_straight e s t r k label at same
accompanied e s t r fine (IsAccompanied.Loads u v align ty cell loaded at) =
    loads_go e s t r u v align ty cell loaded at
accompanied e s t r fine (IsAccompanied.Addresses u v base distance at) = addresses_go e s t r u v base distance at
accompanied e s t r fine (IsAccompanied.AllocaAgain name ty align from label next front at) =
    allocas_again_stay_beside e s t name ty align from label next r front at
accompanied e s t r fine (IsAccompanied.LastAlloca name ty align from label front at) =
    last_goes e s t name ty align from label r front at
accompanied e s t r fine (IsAccompanied.RampEnd result must_tail ty args at) =
    ramp_ends e s t r result must_tail ty args at
accompanied e s t r fine (IsAccompanied.EarlyEnd result must_tail ty args at) =
    early_end e s t result must_tail ty args r at
accompanied e s t r fine (IsAccompanied.ResumedEnd result must_tail ty args at) =
    resumed_ends e s t r result must_tail ty args at

pub ready : (e : Elision) (s u : State) (r : AreReady e s u) → IsFine (framed_step (framed e) s).outcome
    → IsReadyFor e s u r → AreBesideOrOver e (framed_step (framed e) s) (framed_step (elided e) u)
ready e s u r fine (IsReadyFor.Ordinary i v at) =
    inl (goes e s u _ r.beside i v at r.many)
ready e s u r fine (IsReadyFor.Alloca name ty align at) =
    inl (slot_goes e s u _ r.beside name ty align at r.many)
ready e s u r fine (IsReadyFor.AllocatorCall a result must_tail ty args at) =
    inl (block_goes e s u _ r.beside a result must_tail ty args at r.many)
ready e s u r fine (IsReadyFor.Marker j result must_tail ty args at) =
    inl (marker_goes e s u _ r.beside result must_tail ty args r.many j at)
ready e s u r fine (IsReadyFor.Deallocation a result must_tail ty args memory at) =
    inl (deallocation_goes e s u _ r.beside result must_tail ty args memory r.many a at)
ready e s u r fine (IsReadyFor.FreeBeside a result must_tail ty args at) =
    inl (frees_together e s u a result must_tail ty args _ r.beside at)
ready e s u r fine (IsReadyFor.Asking j result must_tail ty args at) =
    inl (asking_goes e s u _ r.beside r.many result must_tail ty args j at.asks at.own)
ready e s u r fine (IsReadyFor.Looks result must_tail ty args callers at) =
    inl (done_beside e s u _ r.beside result must_tail ty args callers fine at)
ready e s u r fine (IsReadyFor.Promise result must_tail ty args callers at) =
    inl (promise_beside e s u _ r.beside result must_tail ty args callers fine at)
ready e s u r fine (IsReadyFor.Edge label at) =
    inl (subst (λ (k : ℕ). AreElided e (framed_step (framed e) s)
    (framed_step (elided e) (record u { top = record u.top { at = k } }))) (sym r.at)
    (goes_beside e s _ r.beside label at))
ready e s u r fine (IsReadyFor.Call at) =
    inl (calls_beside e s u r at)
ready e s u r fine (IsReadyFor.Site at) =
    inl (sites_called e s u r at)
ready e s u r fine (IsReadyFor.Waking at) =
    inl (waking_beside e s u r at)
ready e s u r fine (IsReadyFor.Return at to) =
    inl (returns_beside e s u r at to)
ready e s u r fine (IsReadyFor.LeftRampEnd k on) =
    inl (ramps_go_on e s u r k on)
ready e s u r fine (IsReadyFor.LeftResumedEnd k back) =
    inl (resumed_lead_back e s u r k back)
ready e s u r fine (IsReadyFor.LastReturn at none) = inr (runs_return e s u r at none fine)

-- ---- all of them

-- one more step behind others
pub one_more : (e : Elision) (n : ℕ) (t : State)
    → iterate (framed_step (elided e)) (n + 1) t ≡ framed_step (elided e) (iterate (framed_step (elided e)) n t)
one_more e n t = iterate-add (framed_step (elided e)) n 1 t

pub followed : (e : Elision) (s t : State) (r : AreElided e s t) → IsFine (framed_step (framed e) s).outcome
    → (k : IsKnownStep e s t r)
    → AreBesideOrOver e (framed_step (framed e) s) (iterate (framed_step (elided e)) (steps_of e s t r k) t)
followed e s t r fine (IsKnownStep.Waiting at) = inl (waited e s t r at)
followed e s t r fine (IsKnownStep.Going at) = inl (accompanied e s t r fine at)
followed e s t r fine (IsKnownStep.Fronting at place) =
    let n = length (allocas_ahead (rooms e s.top.func) (function_in e s.top.func)) in
    let u = fronts_made e s t r at in
    subst (AreBesideOrOver e (framed_step (framed e) s)) (sym (one_more e n t))
    (ready e s (fronted e s t) u fine (place u))
followed e s t r fine (IsKnownStep.Standing at place) =
    let u = places_ready e s t r at in ready e s t u fine (place u)

pub few_steps : (e : Elision) (s t : State) (r : AreElided e s t) (k : IsKnownStep e s t r)
    → steps_of e s t r k ≤ 1 + length (allocas_ahead (rooms e s.top.func) (function_in e s.top.func))
few_steps e s t r (IsKnownStep.Waiting at) = omega arith
few_steps e s t r (IsKnownStep.Going at) = omega arith
few_steps e s t r (IsKnownStep.Fronting at place) = omega arith
few_steps e s t r (IsKnownStep.Standing at place) = omega arith
