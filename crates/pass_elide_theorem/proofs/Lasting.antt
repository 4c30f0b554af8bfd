-- Frames that are given live in each state of the run that gives them, as long as the framed run isn't undefined.
use Rattle.std.proofs.Common.{◌≡◌, ◌+◌, ◌<◌, ◌≤◌, ◌∙◌, ◌⊎◌, ⊎_elim, inl, inr, ℕ, Bool, true, List, [], ◌∷◌, ap, arith, length, map, refl, subst, sym}
use Rattle.pass_elide.specs.Elided.{function_frames}
use Rattle.pass_elide_apart.proofs.pass_elide_proof.AskingSteps.{asking_goes}
use Rattle.pass_elide_apart.proofs.pass_elide_proof.Assembly.{few_allocas, ones, running_is, same_events}
use Rattle.pass_elide_apart.proofs.pass_elide_proof.Checked.{checked_advance, checked_is, checked_stays, fine_passes, framed_stays}
use Rattle.pass_elide_apart.proofs.pass_elide_proof.Calls.{calls_beside}
use Rattle.pass_elide_apart.proofs.pass_elide_proof.Done.{done_beside}
use Rattle.pass_elide_apart.proofs.pass_elide_proof.EdgeBeside.{goes_beside}
use Rattle.pass_elide_apart.proofs.pass_elide_proof.FreesTogether.{frees_together}
use Rattle.pass_elide_apart.proofs.pass_elide_proof.FrontsMade.{fronts_made, fronts_pass, places_ready}
use Rattle.pass_elide_apart.proofs.pass_elide_proof.GivenValues.{ramps_go_on, resumed_lead_back}
use Rattle.pass_elide_apart.proofs.pass_elide_proof.MakingSteps.{block_goes, slot_goes}
use Rattle.pass_elide_apart.proofs.pass_elide_proof.MarkingSteps.{deallocation_goes, marker_goes}
use Rattle.pass_elide_apart.proofs.pass_elide_proof.OrdinarySteps.{goes}
use Rattle.pass_elide_apart.proofs.pass_elide_proof.Promised.{promise_beside}
use Rattle.pass_elide_apart.proofs.pass_elide_proof.Returns.{returns_beside}
use Rattle.pass_elide_apart.proofs.pass_elide_proof.SiteCalls.{sites_called}
use Rattle.pass_elide_apart.proofs.pass_elide_proof.StepKinds.{accompanied, few_steps, followed, one_more, waited}
use Rattle.pass_elide_apart.proofs.pass_elide_proof.WaitingFalls.{waiting_falls}
use Rattle.pass_elide_apart.proofs.pass_elide_proof.Woken.{waking_beside}
use Rattle.pass_elide_apart.specs.pass_elide_edges.States.{EndsFramed}
use Rattle.pass_elide_apart.specs.pass_elide_proof.Assembling.{KnowsSteps, elided_after, framed_after, waiting_left}
use Rattle.pass_elide_apart.specs.pass_elide_proof.Calling.{AreReady}
use Rattle.pass_elide_apart.specs.pass_elide_proof.Checked.{checked_step}
use Rattle.pass_elide_apart.specs.pass_elide_proof.Counts.{uncounted}
use Rattle.pass_elide_apart.specs.pass_elide_proof.Elision.{Elision, elided, function_in, framed, rooms}
use Rattle.pass_elide_apart.specs.pass_elide_proof.Match.{AreElided}
use Rattle.pass_elide_apart.specs.pass_elide_proof.Places.{allocas_ahead}
use Rattle.pass_elide_apart.specs.pass_elide_proof.Returning.{HaveReturned, IsAtReturn}
use Rattle.pass_elide_apart.specs.pass_elide_proof.Statement.{IsEntryCall, elided_run, framed_run}
use Rattle.pass_elide_apart.specs.pass_elide_proof.Stepping.{IsKnownStep, IsReadyFor, fronted, steps_of}
use Rattle.pass_elide_meaning.proofs.StatesKnown.{ends_framed}
use Rattle.pass_elide_theorem.proofs.Frames.{frames_live}
use Rattle.pass_elide_theorem.proofs.LastReturns.{last_lives}
use Rattle.pass_elide_theorem.proofs.OnFronts.{fronts_live}
use Rattle.pass_elide_theorem.specs.Carried.{AreCarried, DoFramesLive, FollowsLive}
use Rattle.pass_elide_theorem.specs.Exact.{exact_run, is_exact}
use Rattle.pass_elide_theorem.specs.Ready.{IsElisionReady}
use Rattle.pass_elide_apart.proofs.pass_proofs.run_agreement.Compose.{returned_fine}
use Rattle.pass_elide_apart.proofs.pass_proofs.run_agreement.PricedLockstep.{AdvanceBy, IsPassed, SimulatesBy, lockstep_by}
use Rattle.pass_elide_apart.proofs.pass_proofs.run_agreement.Runs.{iterate-add, returned_over}
use Rattle.pass_elide_apart.proofs.pass_proofs.run_agreement.Shows.{ShowsSame}
use Rattle.pass_elide_apart.specs.pass_proofs.ir_base.declared.outcome.Outcome.{Outcome}
use Rattle.pass_elide_apart.specs.pass_proofs.ir_base.declared.outcome.Word.{Word}
use Rattle.pass_elide_apart.specs.pass_proofs.ir_model.declared.module.Module.{Module}
use Rattle.pass_elide_apart.specs.pass_proofs.run_agreement.Agreements.{NeverUndefined}
use Rattle.pass_elide_apart.specs.pass_proofs.run_agreement.Costs.{cost_from}
use Rattle.pass_elide_apart.specs.pass_proofs.run_agreement.Machines.{IsFine, IsReturned, IsRunning, Machine, at, iterate, state_at}
use Rattle.pass_elide_apart.specs.pass_proofs.run_framed.Framed.{framed_step}
use Rattle.pass_elide_apart.specs.pass_proofs.run_source.declared.state.State.{State}
use Rattle.pass_elide_apart.specs.pass_proofs.run_step.Runs.{seen_event}

-- ---- the states stay beside each other, or the entry returns

module _ (e : Elision) (s u : State) (r : AreReady e s u) (fine : IsFine (framed_step (framed e) s).outcome) where
  goes_or_returns : IsReadyFor e s u r
      → AreElided e (framed_step (framed e) s) (framed_step (elided e) u) ⊎ (IsAtReturn e s u × (s.below ≡ []))
  goes_or_returns (IsReadyFor.Ordinary i v at) =
      inl (goes e s u _ r.beside i v at r.many)
  goes_or_returns (IsReadyFor.Alloca name ty align at) =
      inl (slot_goes e s u _ r.beside name ty align at r.many)
  goes_or_returns (IsReadyFor.AllocatorCall a result must_tail ty args at) =
      inl (block_goes e s u _ r.beside a result must_tail ty args at r.many)
  goes_or_returns (IsReadyFor.Marker j result must_tail ty args at) =
      inl (marker_goes e s u _ r.beside result must_tail ty args r.many j at)
  goes_or_returns (IsReadyFor.Deallocation a result must_tail ty args memory at) =
      inl (deallocation_goes e s u _ r.beside result must_tail ty args memory r.many a at)
  goes_or_returns (IsReadyFor.FreeBeside a result must_tail ty args at) =
      inl (frees_together e s u a result must_tail ty args _ r.beside at)
  goes_or_returns (IsReadyFor.Asking j result must_tail ty args at) =
      inl (asking_goes e s u _ r.beside r.many result must_tail ty args j at.asks at.own)
  goes_or_returns (IsReadyFor.Looks result must_tail ty args callers at) =
      inl (done_beside e s u _ r.beside result must_tail ty args callers fine at)
  goes_or_returns (IsReadyFor.Promise result must_tail ty args callers at) =
      inl (promise_beside e s u _ r.beside result must_tail ty args callers fine at)
  goes_or_returns (IsReadyFor.Edge label at) =
      inl (subst (λ (k : ℕ). AreElided e (framed_step (framed e) s)
      (framed_step (elided e) (record u { top = record u.top { at = k } }))) (sym r.at)
      (goes_beside e s _ r.beside label at))
  goes_or_returns (IsReadyFor.Call at) =
      inl (calls_beside e s u r at)
  goes_or_returns (IsReadyFor.Site at) =
      inl (sites_called e s u r at)
  goes_or_returns (IsReadyFor.Waking at) =
      inl (waking_beside e s u r at)
  goes_or_returns (IsReadyFor.Return at to) =
      inl (returns_beside e s u r at to)
  goes_or_returns (IsReadyFor.LeftRampEnd k on) =
      inl (ramps_go_on e s u r k on)
  goes_or_returns (IsReadyFor.LeftResumedEnd k back) =
      inl (resumed_lead_back e s u r k back)
  goes_or_returns (IsReadyFor.LastReturn at none) = inr (at, none)

-- ---- both runs

module _ (e : Elision) (source : Module) (most : ℕ) (ready : IsElisionReady e source most) (entry : ℕ)
    (args : List Word) (call : IsEntryCall e entry args) (callees : ℕ → Bool)
    (knows : KnowsSteps e entry args (is_exact e callees) (AreCarried e)) where
  abbrev A : Machine State
  A = uncounted (framed_run e entry args)

  abbrev C : Machine State
  C = uncounted (exact_run e callees entry args)

  abbrev exact : State → Bool
  exact = is_exact e callees

  abbrev B : Machine State
  B = uncounted (elided_run e entry args)

  abbrev V : State → State → Type 0
  V s t = DoFramesLive t

  abbrev price : State → ℕ
  price s = 1 + most

  abbrev cost : State → ℕ
  cost t = 1

  -- both are carried, or are over
  abbrev K : State → State → Type 0
  K s t = AreCarried e s t ⊎ (HaveReturned s t × DoFramesLive t)

  record Along (c : ℕ) (s t : State) : Type 0 where
    first : ℕ
    second : ℕ
    comes : s ≡ framed_after e entry args first
    other : t ≡ elided_after e entry args second
    keeps : K s t

  live_at : (n m : ℕ) → K (framed_after e entry args n) (elided_after e entry args m)
      → DoFramesLive (elided_after e entry args m)
  live_at n m (inl k) =
      frames_live e (framed_after e entry args n) (elided_after e entry args m) k.kept.related
      (ends_framed e ready.places ready.more entry args n)
  live_at n m (inr over) = over.1

  lives : (c : ℕ) (s t : State) → Along c s t → DoFramesLive t
  lives c s t a =
      subst DoFramesLive (sym a.other) (live_at a.first a.second
      (subst (λ (p : State × State). K p.0 p.1) (λ j. (a.comes j, a.other j)) a.keeps))

  shows : (s t : State) → K s t → ShowsSame (B.seen t) (A.seen s)
  shows s t (inl k) = record {
    events = ap (map (seen_event e.code)) (k.kept.related.beside.world.events ∙ same_events s.world.events);
    outcome = k.kept.related.beside.outcome;
  }
  shows s t (inr over) = record { events = ap (map (seen_event e.code)) over.0.events; outcome = over.0.outcome }

  -- ---- a step

  abbrev Advances : ℕ → State → State → Type 0
  Advances c s t = AdvanceBy A price B cost Along V (waiting_left e) c s t

  module _ (n m : ℕ) (keeps : AreCarried e (framed_after e entry args n) (elided_after e entry args m))
      (runs : (framed_after e entry args n).outcome ≡ Outcome.Running)
      (is_passed : is_exact e callees (framed_after e entry args n) ≡ true)
      (fine : IsFine (framed_step (framed e) (framed_after e entry args n)).outcome) where
    abbrev s : State
    s = framed_after e entry args n

    abbrev t : State
    t = elided_after e entry args m

    abbrev r : AreElided e (framed_after e entry args n) (elided_after e entry args m)
    r = (knows.related n m keeps).beside

    known : EndsFramed e (framed_after e entry args n)
    known = ends_framed e ready.places ready.more entry args n

    live : DoFramesLive (elided_after e entry args m)
    live = live_at n m (inl keeps)

    -- the state behind a last return
    leaves : (u : State) (q : AreReady e s u) → IsReadyFor e s u q
        → HaveReturned (framed_step (framed e) s) (framed_step (elided e) u)
        → AreElided e (framed_step (framed e) s) (framed_step (elided e) u)
        ⊎ (HaveReturned (framed_step (framed e) s) (framed_step (elided e) u) × DoFramesLive (framed_step (elided e) u))
    leaves u q at over =
        ⊎_elim (λ beside. inl beside) (λ last. inr (
          over,
          last_lives e s u q last.0 known last.1
              (returned_fine (framed_step (elided e) u).outcome (subst IsReturned (sym over.outcome) over.returned)),
        ))
        (goes_or_returns e s u q fine at)

    abbrev Leads : State → Type 0
    Leads u =
        AreElided e (framed_step (framed e) (framed_after e entry args n)) u
        ⊎ (HaveReturned (framed_step (framed e) (framed_after e entry args n)) u × DoFramesLive u)

    behind : (k : IsKnownStep e s t r)
        → HaveReturned (framed_step (framed e) s) (iterate (framed_step (elided e)) (steps_of e s t r k) t)
        → Leads (iterate (framed_step (elided e)) (steps_of e s t r k) t)
    behind (IsKnownStep.Waiting at) over = inl (waited e s t r at)
    behind (IsKnownStep.Going at) over = inl (accompanied e s t r fine at)
    behind (IsKnownStep.Fronting at place) over =
        let fronts = length (allocas_ahead (rooms e s.top.func) (function_in e s.top.func)) in
        let q : AreReady e s (fronted e s t) = fronts_made e s t r at in
        subst Leads (sym (one_more e fronts t))
        (leaves (fronted e s t) q (place q)
        (subst (HaveReturned (framed_step (framed e) s)) (one_more e fronts t) over))
    behind (IsKnownStep.Standing at place) over =
        let q : AreReady e s t = places_ready e s t r at in leaves t q (place q) over

    k : IsKnownStep e (framed_after e entry args n) (elided_after e entry args m) (knows.related n m keeps).beside
    k = knows.known n m keeps runs is_passed fine

    abbrev steps : ℕ
    steps = steps_of e s t r k

    leads : Leads (iterate (framed_step (elided e)) (steps_of e s t r k) t)
    leads = ⊎_elim (λ beside. inl beside) (λ over. behind k over) (followed e s t r fine k)

    next : K (framed_step (framed e) s) (iterate (framed_step (elided e)) (steps_of e s t r k) t)
    next = ⊎_elim (λ beside. inl (knows.kept n m keeps runs is_passed fine k beside)) (λ over. inr over) leads

    few : steps ≤ 1 + most
    few =
        let low = few_steps e s t r k in
        let allocas = few_allocas (length (function_in e s.top.func).names)
        (function_frames (rooms e s.top.func) (function_in e s.top.func)) in
        let frames = ready.sites.few s.top.func in
        omega (arith, low, allocas, frames)

    paid : (c : ℕ) → cost_from B.step cost steps t + 0 ≤ price s + c
    paid c = let all = ones B.step steps t in let low = few in omega (arith, all, low)

    goes_on : (k : IsKnownStep e s t r)
        → (0 < steps_of e s t r k) ⊎ (waiting_left e (framed_step (framed e) s) < waiting_left e s)
    goes_on (IsKnownStep.Waiting at) = inr (waiting_falls e s t (ready.waits s.top.func) r at)
    goes_on (IsKnownStep.Going at) = inl (omega arith)
    goes_on (IsKnownStep.Fronting at place) = inl (omega arith)
    goes_on (IsKnownStep.Standing at place) = inl (omega arith)

    passes : (k : IsKnownStep e s t r) → (i : ℕ) → 0 < i → i < steps_of e s t r k
        → IsPassed A B V s (iterate B.step i t)
    passes (IsKnownStep.Waiting at) i low high = absurd (omega (arith, high))
    passes (IsKnownStep.Going at) i low high = absurd (omega (arith, low, high))
    passes (IsKnownStep.Standing at place) i low high = absurd (omega (arith, low, high))
    passes (IsKnownStep.Fronting at place) i low high =
        let way = fronts_pass e s t r at i (omega (arith, high)) in
        record {
          runs = way.0;
          events = ap (map (seen_event e.code)) (way.1 ∙ (r.world.events ∙ same_events s.world.events));
          holds = fronts_live e s t r at live i (omega (arith, high));
        }

    advances_at : (c : ℕ) → Advances c s t
    advances_at c = record {
      steps = steps;
      credit = 0;
      few = paid c;
      goes_on = goes_on k;
      between = λ i low high. inl (passes k i low high);
      related = record {
        first = n + 1;
        second = m + steps;
        comes = sym (iterate-add A.step n 1 A.start);
        other = sym (iterate-add B.step m steps B.start);
        keeps = next;
      };
    }

  abbrev Checks : ℕ → State → State → Type 0
  Checks c s t = AdvanceBy C price B cost Along V (waiting_left e) c s t

  advances : (c : ℕ) (s t : State) → Along c s t → IsRunning s.outcome
      → IsFine (checked_step e (is_exact e callees) s).outcome → Checks c s t
  advances c s t k runs fine =
      let is = fine_passes e exact s runs fine in
      let still : IsFine (framed_step (framed e) s).outcome
      = subst (λ (z : State). IsFine z.outcome) (checked_is e exact s is) fine in
      checked_advance e exact entry args price B cost Along V (waiting_left e) c s t is
      (subst (λ (p : State × State). K p.0 p.1 → IsRunning p.0.outcome → is_exact e callees p.0 ≡ true
      → IsFine (framed_step (framed e) p.0).outcome → Advances c p.0 p.1) (λ j. (sym k.comes j, sym k.other j))
      (at_once k.first k.second) k.keeps runs is still)
    where
      at_once : (n m : ℕ) → K (framed_after e entry args n) (elided_after e entry args m)
          → IsRunning (framed_after e entry args n).outcome → is_exact e callees (framed_after e entry args n) ≡ true
          → IsFine (framed_step (framed e) (framed_after e entry args n)).outcome
          → Advances c (framed_after e entry args n) (elided_after e entry args m)
      at_once n m (inl keeps) runs is fine =
          advances_at n m keeps (running_is (framed_after e entry args n).outcome runs) is fine c
      at_once n m (inr over) runs is fine =
          absurd (returned_over (framed_after e entry args n).outcome over.0.returned runs)

  shown : (c : ℕ) (s t : State) → Along c s t → ShowsSame (B.seen t) (A.seen s)
  shown c s t k =
      subst (λ (p : State × State). ShowsSame (B.seen p.1) (A.seen p.0)) (λ j. (sym k.comes j, sym k.other j))
      (shows (framed_after e entry args k.first) (elided_after e entry args k.second)
      (subst (λ (p : State × State). K p.0 p.1) (λ j. (k.comes j, k.other j)) k.keeps))

  simulates : SimulatesBy C price B cost Along V (waiting_left e)
  simulates = record {
    begin = record { first = 0; second = 0; comes = refl; other = refl; keeps = inl knows.start };
    same = shown;
    counts = λ c s t k. refl;
    holds = lives;
    advance = advances;
    stays_a = checked_stays e exact;
    stays_b = framed_stays (elided e);
  }

  -- in each state, if the framed run is never undefined
  pub frames_last : NeverUndefined (at (uncounted (exact_run e callees entry args))) → (m : ℕ) → DoFramesLive (elided_after e entry args m)
  frames_last fine m = ((lockstep_by C price B cost Along V (waiting_left e) simulates).back fine m).holds

  -- else in each up to where it follows the framed run
  pub frames_last_until : (n : ℕ) → IsFine (state_at (exact_run e callees entry args) n).outcome
      → FollowsLive e callees entry args n
  frames_last_until n fine =
      let x = (lockstep_by C price B cost Along V (waiting_left e) simulates).forward n fine in
      record { steps = x.steps; follows = x.follows; live = λ m le. (x.between m le).holds }
