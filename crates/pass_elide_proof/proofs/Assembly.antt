-- Both runs agree by prices, where each step of the first is of a known kind and leaves the states related.
use Rattle.std.proofs.Common.{◌≡◌, ◌+◌, ◌-◌, ◌<◌, ◌≤◌, ◌∙◌, ◌⊎◌, ⊎_elim, inl, inr, ℕ, zero, suc, Bool, true, List, [], ◌∷◌, ap, arith, length, map, refl, subst, sym}
use Rattle.pass_elide.specs.Elided.{frame_allocas, function_frames}
use Rattle.pass_elide.specs.declared.given.GivenFrame.{GivenFrame}
use Rattle.pass_elide_proof.proofs.Checked.{checked_advance, checked_is, checked_stays, fine_passes, framed_stays}
use Rattle.pass_elide_proof.proofs.FrontsMade.{fronts_pass}
use Rattle.pass_elide_proof.proofs.StepKinds.{few_steps, followed}
use Rattle.pass_elide_proof.proofs.WaitingFalls.{waiting_falls}
use Rattle.pass_elide_proof.specs.Assembling.{KnowsSteps, WaitsBehind, elided_after, framed_after, waiting_left}
use Rattle.pass_elide_proof.specs.Checked.{checked_run, checked_step}
use Rattle.pass_elide_proof.specs.Counts.{uncounted}
use Rattle.pass_elide_proof.specs.Elision.{Elision, elided, framed, function_in, rooms}
use Rattle.pass_elide_proof.specs.Returning.{HaveReturned}
use Rattle.pass_elide_proof.specs.Statement.{AreRelatedOrOver, IsElisionOf, elided_run, framed_run}
use Rattle.pass_elide_proof.specs.Stepping.{IsKnownStep, steps_of}
use Rattle.pass_proofs.proofs.run_agreement.Costs.{weaken_by}
use Rattle.pass_proofs.proofs.run_agreement.PricedLockstep.{AdvanceBy, IsPassed, SimulatesBy, lockstep_by}
use Rattle.pass_proofs.proofs.run_agreement.Runs.{iterate-add, returned_over}
use Rattle.pass_proofs.proofs.run_agreement.Shows.{ShowsSame}
use Rattle.pass_proofs.specs.ir_base.declared.outcome.Event.{Event}
use Rattle.pass_proofs.specs.ir_base.declared.outcome.Outcome.{Outcome}
use Rattle.pass_proofs.specs.ir_base.declared.outcome.Word.{Word}
use Rattle.pass_proofs.specs.ir_model.declared.module.Module.{Module}
use Rattle.pass_proofs.specs.run_agreement.Costs.{AgreesBy, IsNear, cost_from}
use Rattle.pass_proofs.specs.run_agreement.Machines.{IsFine, IsRunning, Machine, iterate}
use Rattle.pass_proofs.specs.run_framed.Framed.{framed_step}
use Rattle.pass_proofs.specs.run_laws.embedded.Related.{moved_event}
use Rattle.pass_proofs.specs.run_source.declared.state.State.{State}
use Rattle.pass_proofs.specs.run_step.Runs.{seen_event}

-- ---- lists and numbers

pub same_events : (es : List Event) → map (moved_event (λ d. d)) es ≡ es
same_events [] = refl
same_events (x ∷ es) = ap (λ (ys : List Event). x ∷ ys) (same_events es)

-- each frame that is given an alloca has one
pub few_allocas : (n : ℕ) (rs : List GivenFrame) → length (frame_allocas n rs) ≤ length rs
few_allocas n [] = omega arith
few_allocas n (GivenFrame.Alloca size align ∷ rs) = let few = few_allocas (n + 1) rs in omega (arith, few)
few_allocas n (GivenFrame.Field base distance ∷ rs) = let few = few_allocas (n + 1) rs in omega (arith, few)

pub running_is : (o : Outcome) → IsRunning o → o ≡ Outcome.Running
running_is (Outcome.Returned v) h = absurd h
running_is Outcome.Running h = refl
running_is (Outcome.Undefined cause place) h = absurd h

pub ones : {S : Type 0} (step : S → S) (n : ℕ) (s : S) → cost_from step (λ t. 1) n s ≡ n
ones step zero s = refl
ones step (suc n) s = let rest = ones step n (step s) in omega (arith, rest)

-- ---- the runs

module _ (e : Elision) (source : Module) (most : ℕ) (is : IsElisionOf e source most)
    (waits : (func : ℕ) → WaitsBehind (function_in e func) (e.shape func)) (entry : ℕ) (args : List Word)
    (passes : State → Bool) (Keeps : State → State → Type 0) (knows : KnowsSteps e entry args passes Keeps) where
  abbrev A : Machine State
  A = uncounted (framed_run e entry args)

  -- the run that is also undefined where a state doesn't pass
  abbrev C : Machine State
  C = uncounted (checked_run e passes entry args)

  abbrev B : Machine State
  B = uncounted (elided_run e entry args)

  abbrev R : State → State → Type 0
  R = AreRelatedOrOver e

  abbrev V : State → State → Type 0
  V = IsNear (elided_run e entry args) (1 + most) R

  abbrev price : State → ℕ
  price s = 1 + most

  abbrev cost : State → ℕ
  cost t = 1

  -- the stronger relation holds, or both runs are over
  abbrev K : State → State → Type 0
  K s t = Keeps s t ⊎ HaveReturned s t

  -- both runs come to the states
  record Along (c : ℕ) (s t : State) : Type 0 where
    first : ℕ
    second : ℕ
    comes : s ≡ framed_after e entry args first
    other : t ≡ elided_after e entry args second
    keeps : K s t

  along_related : (c : ℕ) (s t : State) → Along c s t → R s t
  along_related c s t a =
      subst (λ (p : State × State). R p.0 p.1) (λ j. (sym a.comes j, sym a.other j))
      (⊎_elim (λ k. inl (knows.related a.first a.second k)) (λ over. inr over)
      (subst (λ (p : State × State). K p.0 p.1) (λ j. (a.comes j, a.other j)) a.keeps))

  near : (s t : State) → R s t → V s t
  near s t r = (0, omega arith, inl (t, r, refl))

  -- ---- what is shown

  shows : (s t : State) → R s t → ShowsSame (B.seen t) (A.seen s)
  shows s t (inl r) = record {
    events = ap (map (seen_event e.code)) (r.beside.world.events ∙ same_events s.world.events);
    outcome = r.beside.outcome;
  }
  shows s t (inr over) = record { events = ap (map (seen_event e.code)) over.events; outcome = over.outcome }

  -- ---- a step

  abbrev Advances : ℕ → State → State → Type 0
  Advances c s t = AdvanceBy A price B cost Along V (waiting_left e) c s t

  module _ (n m : ℕ) (keeps : Keeps (framed_after e entry args n) (elided_after e entry args m))
      (runs : (framed_after e entry args n).outcome ≡ Outcome.Running)
      (is_passed : passes (framed_after e entry args n) ≡ true)
      (fine : IsFine (framed_step (framed e) (framed_after e entry args n)).outcome) where
    abbrev s : State
    s = framed_after e entry args n

    abbrev t : State
    t = elided_after e entry args m

    k : IsKnownStep e (framed_after e entry args n) (elided_after e entry args m) (knows.related n m keeps).beside
    k = knows.known n m keeps runs is_passed fine

    abbrev steps : ℕ
    steps = steps_of e s t (knows.related n m keeps).beside k

    few : steps ≤ 1 + most
    few =
        let low = few_steps e s t (knows.related n m keeps).beside k in
        let allocas = few_allocas (length (function_in e s.top.func).names)
        (function_frames (rooms e s.top.func) (function_in e s.top.func)) in
        let frames = is.few s.top.func in
        omega (arith, low, allocas, frames)

    paid : (c : ℕ) → cost_from B.step cost steps t + 0 ≤ price s + c
    paid c = let all = ones B.step steps t in let low = few in omega (arith, all, low)

    goes : (k : IsKnownStep e s t (knows.related n m keeps).beside)
        → (0 < steps_of e s t (knows.related n m keeps).beside k) ⊎ (waiting_left e (framed_step (framed e) s) < waiting_left e s)
    goes (IsKnownStep.Waiting at) = inr (waiting_falls e s t (waits s.top.func) (knows.related n m keeps).beside at)
    goes (IsKnownStep.Going at) = inl (omega arith)
    goes (IsKnownStep.Fronting at place) = inl (omega arith)
    goes (IsKnownStep.Standing at place) = inl (omega arith)

    stays_passed : (k : IsKnownStep e s t (knows.related n m keeps).beside) → (i : ℕ) → 0 < i → i < steps_of e s t (knows.related n m keeps).beside k
        → steps_of e s t (knows.related n m keeps).beside k ≤ 1 + most → IsPassed A B V s (iterate B.step i t)
    stays_passed (IsKnownStep.Waiting at) i low high all = absurd (omega (arith, high))
    stays_passed (IsKnownStep.Going at) i low high all = absurd (omega (arith, low, high))
    stays_passed (IsKnownStep.Standing at place) i low high all = absurd (omega (arith, low, high))
    stays_passed (IsKnownStep.Fronting at place) i low high all =
        let way = fronts_pass e s t (knows.related n m keeps).beside at i (omega (arith, high)) in
        record {
          runs = way.0;
          events = ap (map (seen_event e.code)) (way.1 ∙ ((knows.related n m keeps).beside.world.events ∙ same_events s.world.events));
          holds = (i, omega (arith, high, all), inl (t, inl (knows.related n m keeps), refl));
        }

    advances_at : (c : ℕ) → Advances c s t
    advances_at c = record {
      steps = steps;
      credit = 0;
      few = paid c;
      goes_on = goes k;
      between = λ i low high. inl (stays_passed k i low high few);
      related = record {
        first = n + 1;
        second = m + steps;
        comes = sym (iterate-add A.step n 1 A.start);
        other = sym (iterate-add B.step m steps B.start);
        keeps = ⊎_elim (λ beside. inl (knows.kept n m keeps runs is_passed fine k beside)) (λ over. inr over)
            (followed e s t (knows.related n m keeps).beside fine k);
      };
    }

  abbrev Checks : ℕ → State → State → Type 0
  Checks c s t = AdvanceBy C price B cost Along V (waiting_left e) c s t

  advances : (c : ℕ) (s t : State) → Along c s t → IsRunning s.outcome
      → IsFine (checked_step e passes s).outcome → Checks c s t
  advances c s t k runs fine =
      let is = fine_passes e passes s runs fine in
      let still : IsFine (framed_step (framed e) s).outcome
      = subst (λ (z : State). IsFine z.outcome) (checked_is e passes s is) fine in
      checked_advance e passes entry args price B cost Along V (waiting_left e) c s t is
      (subst (λ (p : State × State). K p.0 p.1 → IsRunning p.0.outcome → passes p.0 ≡ true
      → IsFine (framed_step (framed e) p.0).outcome → Advances c p.0 p.1) (λ j. (sym k.comes j, sym k.other j))
      (at_once k.first k.second) k.keeps runs is still)
    where
      at_once : (n m : ℕ) → K (framed_after e entry args n) (elided_after e entry args m)
          → IsRunning (framed_after e entry args n).outcome → passes (framed_after e entry args n) ≡ true
          → IsFine (framed_step (framed e) (framed_after e entry args n)).outcome
          → Advances c (framed_after e entry args n) (elided_after e entry args m)
      at_once n m (inl keeps) runs is fine =
          advances_at n m keeps (running_is (framed_after e entry args n).outcome runs) is fine c
      at_once n m (inr over) runs is fine =
          absurd (returned_over (framed_after e entry args n).outcome over.returned runs)

  simulates : SimulatesBy C price B cost Along V (waiting_left e)
  simulates = record {
    begin = record { first = 0; second = 0; comes = refl; other = refl; keeps = inl knows.start };
    same = λ c s t k. shows s t (along_related c s t k);
    counts = λ c s t k. refl;
    holds = λ c s t k. near s t (along_related c s t k);
    advance = advances;
    stays_a = checked_stays e passes;
    stays_b = framed_stays (elided e);
  }

  pub assembled : AgreesBy (AreRelatedOrOver e) (IsNear (elided_run e entry args) (1 + most) (AreRelatedOrOver e))
      (uncounted (checked_run e passes entry args)) (λ s. 1 + most) (uncounted (elided_run e entry args)) (λ t. 1)
  assembled =
      weaken_by (λ s t. (c : ℕ) × Along c s t) V R V C price price B cost cost (λ s t k. along_related k.0 s t k.1) (λ s t v. v)
      (λ n fine. omega arith) (λ n. omega arith)
      (lockstep_by C price B cost Along V (waiting_left e) simulates)
