-- Where each step of the run is followed the two runs agree by what their steps cost.
use Rattle.std.proofs.Common.{◌≡◌, ℕ, zero, suc, ◌+◌, ◌<◌, ◌≤◌, inl, inr, ⊎_elim, List, [], ◌∷◌, map, length, refl, sym, ap, ◌∙◌, subst, arith}
use Rattle.std.specs.Prelude.{ℤ, None, Option, Some, slice_get}
use Rattle.pass_proofs.specs.frame_layout.declared.layout.Layouts.{Layouts}
use Rattle.pass_proofs.specs.ir_base.declared.outcome.Event.{Event}
use Rattle.pass_proofs.specs.ir_base.declared.outcome.Outcome.{Outcome}
use Rattle.pass_proofs.specs.ir_base.declared.outcome.Word.{Word}
use Rattle.pass_proofs.proofs.ir_laws.facts.Lists.{get_within, none_past}
use Rattle.pass_proofs.specs.ir_model.declared.module.Declaration.{Declaration}
use Rattle.pass_proofs.specs.ir_model.declared.module.Frame.{Frame}
use Rattle.pass_proofs.specs.ir_model.declared.module.Module.{Module}
use Rattle.pass_frames_code.specs.Followed.{AreStepsFollowed, IsFollowed, IsGiven, IsOn, measure, renewed_state_at}
use Rattle.pass_frames_code.specs.Meaning.{KeepsFramedMeaning, PaysForFrames, step_cost}
use Rattle.pass_frames_code.specs.Related.{AreBuiltOf, AreInstances, AreShownAlike, Building}
use Rattle.pass_proofs.specs.pass_kept_proof.Kept.{Keep}
use Rattle.pass_proofs.specs.edges.states.MovedState.{edges_split}
use Rattle.pass_renewed_proof.specs.Prices.{renewed_machine}
use Rattle.pass_renewed_proof.specs.Renewed.{Flags, RenewedGiven, Roots, renewed_advance, renewed_given, renewed_step}
use Rattle.pass_proofs.proofs.run_agreement.Costs.{weaken_by}
use Rattle.pass_proofs.proofs.run_agreement.PricedLockstep.{AdvanceBy, IsPassed, SimulatesBy, lockstep_by}
use Rattle.pass_proofs.proofs.run_agreement.Runs.{iterate-add}
use Rattle.pass_proofs.proofs.run_agreement.Shows.{ShowsSame}
use Rattle.pass_proofs.specs.run_agreement.Costs.{AgreesBy, cost_from}
use Rattle.pass_proofs.specs.run_agreement.Machines.{IsFine, IsRunning, Machine, SeenEvent, iterate}
use Rattle.pass_proofs.specs.run_framed.Framed.{FramedGiven, framed_advance, framed_given, framed_state_at, framed_step}
use Rattle.pass_proofs.specs.run_laws.embedded.Related.{moved_event}
use Rattle.pass_proofs.specs.run_source.Source.{first_state}
use Rattle.pass_proofs.specs.run_source.declared.state.Instance.{Instance}
use Rattle.pass_proofs.specs.run_source.declared.state.State.{State}
use Rattle.pass_proofs.specs.run_states.moved_states.Beside.{framed_machine}
use Rattle.pass_proofs.specs.run_step.Runs.{name_of_declaration, seen_event}

-- ---- what related states show

same_events : (es : List Event) → map (moved_event (λ d. d)) es ≡ es
same_events [] = refl
same_events (e ∷ es) = ap (λ (more : List Event). e ∷ more) (same_events es)

pub events_same : (b : Building) (s t : State) → AreBuiltOf b s t → t.world.events ≡ s.world.events
events_same b s t r = r.world.events ∙ same_events s.world.events

-- an instance has one beside it
pub other_instance : (b : Building) (s t : State) (r : AreBuiltOf b s t) (i : ℕ) (x : Instance)
    → slice_get s.instances i ≡ Some x → (y : Instance) × (slice_get t.instances i
    ≡ Some y) × AreInstances b r.homes t x y
other_instance b s t r i x e = on (slice_get t.instances i) refl
  where
    on : (o : Option Instance) → slice_get t.instances i ≡ o
        → (y : Instance) × (slice_get t.instances i ≡ Some y) × AreInstances b r.homes t x y
    on (Some y) k = (y, k, r.instances i x y e k)
    on None k =
        let past : length t.instances ≤ i = none_past t.instances i k in
        let low : i < length s.instances = get_within s.instances i x e in
        let same : length t.instances ≡ length s.instances = r.count in
        absurd (omega (arith, past, low, same))

pub shown_alike : (b : Building) (s t : State) → AreBuiltOf b s t → AreShownAlike b s t
shown_alike b s t r = record {
  homes = r.homes;
  events = events_same b s t r;
  outcome = r.outcome;
  instances = λ i x e suspended. other_instance b s t r i x e;
}

-- ---- runs that are over

renewed_stays : (g : RenewedGiven) (s : State) → (IsRunning s.outcome → ⊥) → renewed_step g s ≡ s
renewed_stays g s over = on s.outcome refl
  where
    on : (o : Outcome) → s.outcome ≡ o → renewed_step g s ≡ s
    on (Outcome.Returned v) e = ap (renewed_advance g s) e
    on Outcome.Running e = absurd (over (subst IsRunning (sym e) tt))
    on (Outcome.Undefined c p) e = ap (renewed_advance g s) e

pub framed_stays : (g : FramedGiven) (s : State) → (IsRunning s.outcome → ⊥) → framed_step g s ≡ s
framed_stays g s over = on s.outcome refl
  where
    on : (o : Outcome) → s.outcome ≡ o → framed_step g s ≡ s
    on (Outcome.Returned v) e = ap (framed_advance g s) e
    on Outcome.Running e = absurd (over (subst IsRunning (sym e) tt))
    on (Outcome.Undefined c p) e = ap (framed_advance g s) e

pub running_is : (o : Outcome) → IsRunning o → o ≡ Outcome.Running
running_is (Outcome.Returned v) h = absurd h
running_is Outcome.Running h = refl
running_is (Outcome.Undefined c p) h = absurd h

-- ---- the account of one step

pub cost_ones : {T : Type 0} (step : T → T) (n : ℕ) (t : T) → cost_from step (λ u. 1) n t ≡ n
cost_ones step zero t = refl
cost_ones step (suc n) t = ap (λ (k : ℕ). 1 + k) (cost_ones step n (step t)) ∙ one n
  where
    one : (n : ℕ) → 1 + n ≡ suc n
    one n = omega arith

pays : (n cost price c : ℕ) → n ≤ cost → cost ≤ price → n + 0 ≤ price + c
pays n cost price c le more = omega arith

pub seen_same : (m n : Module) → m.declarations ≡ n.declarations → (es more : List Event) → es ≡ more
    → map (seen_event m) es ≡ map (seen_event n) more
seen_same m n d es more e =
    ap (map (seen_event m)) e
    ∙ ap (λ (ds : List Declaration). map (λ (x : Event). seen_by ds x) more) d
  where
    seen_by : List Declaration → Event → SeenEvent
    seen_by ds x = record { name = name_of_declaration (slice_get ds x.func); args = x.args }

module _ (b : Building) (layouts : Layouts) (keep : Keep) (flags : Flags) (roots : Roots) (sizes : List Frame)
    (entry : ℕ) (args : List Word) (answers : List ℤ) (price : State → ℕ) (is : IsGiven b layouts answers)
    (declared : b.framed_code.declarations ≡ b.code.declarations)
    (pay : PaysForFrames b (renewed_given (edges_split b.code) keep flags roots sizes answers) price)
    (start : AreBuiltOf b (first_state (edges_split b.code) entry args) (first_state b.framed_code entry args))
    (all : AreStepsFollowed b (renewed_given (edges_split b.code) keep flags roots sizes answers) entry args) where
  abbrev g : RenewedGiven
  g = renewed_given (edges_split b.code) keep flags roots sizes answers

  abbrev h : FramedGiven
  h = framed_given b.framed_code layouts.coroutines answers

  abbrev ours : Machine State
  ours = renewed_machine (edges_split b.code) keep flags roots sizes entry args answers

  abbrev theirs : Machine State
  theirs = framed_machine b.framed_code layouts entry args answers

  -- related states that the two runs come to
  record IsKept (c : ℕ) (s t : State) : Type 0 where
    related : AreBuiltOf b s t
    index : ℕ
    reached : s ≡ renewed_state_at g entry args index
    place : ℕ
    there : t ≡ framed_state_at b.given entry args place

  abbrev V : State → State → Type 0
  V = AreShownAlike b

  passed : (s t : State) → IsOn b s t → IsPassed ours theirs V s t
  passed s t on = record {
    runs = on.running;
    events = seen_same b.framed_code (edges_split b.code) declared t.world.events s.world.events on.shown.events;
    holds = on.shown;
  }

  same_step : (i : ℕ) (t : State) → iterate (framed_step b.given) i t ≡ iterate (framed_step h) i t
  same_step i t = ap (λ (k : FramedGiven). iterate (framed_step k) i t) is

  advances : (c : ℕ) (s t : State) (k : IsKept c s t) → IsFollowed b g s t
      → AdvanceBy ours price theirs (λ t. 1) IsKept V (measure g) c s t
  advances c s t k f = record {
    steps = f.steps;
    credit = 0;
    few = subst (λ (n : ℕ). n + 0 ≤ price s + c) (sym (cost_ones (framed_step h) f.steps t))
        (pays f.steps (step_cost b g s s.top.mode) (price s) c f.few (pay s));
    goes_on = f.goes_on;
    between = λ i pos lt. ⊎_elim
        (λ on. inl (passed s (iterate (framed_step h) i t) (subst (IsOn b s) (same_step i t) on)))
        (λ on. inr (passed (renewed_step g s) (iterate (framed_step h) i t)
        (subst (IsOn b (renewed_step g s)) (same_step i t) on)))
        (f.passes i pos lt);
    related = record {
      related = subst (AreBuiltOf b (renewed_step g s)) (same_step f.steps t) f.related;
      index = k.index + 1;
      reached = ap (renewed_step g) k.reached
          ∙ sym (iterate-add (renewed_step g) k.index 1 (first_state (edges_split b.code) entry args));
      place = k.place + f.steps;
      there = sym (same_step f.steps t)
          ∙ ap (iterate (framed_step b.given) f.steps) k.there
          ∙ sym (iterate-add (framed_step b.given) k.place f.steps (first_state b.given.given.code entry args));
    };
  }

  followed : (s t : State) (index place : ℕ) → s ≡ renewed_state_at g entry args index
      → t ≡ framed_state_at b.given entry args place → AreBuiltOf b s t
      → s.outcome ≡ Outcome.Running → IsFine (renewed_step g s).outcome → IsFollowed b g s t
  followed s t index place reached there =
      subst (λ (p : State × State). AreBuiltOf b p.0 p.1 → p.0.outcome ≡ Outcome.Running
      → IsFine (renewed_step g p.0).outcome → IsFollowed b g p.0 p.1) (λ j. (sym reached j, sym there j))
      (all index place)

  shows : (s t : State) → AreBuiltOf b s t → ShowsSame (theirs.seen t) (ours.seen s)
  shows s t r = record {
    events = seen_same b.framed_code (edges_split b.code) declared t.world.events s.world.events (events_same b s t r);
    outcome = r.outcome;
  }

  simulates : SimulatesBy ours price theirs (λ t. 1) IsKept V (measure g)
  simulates = record {
    begin = record {
      related = start;
      index = 0;
      reached = refl;
      place = 0;
      there = ap (λ (k : FramedGiven). first_state k.given.code entry args) (sym is);
    };
    same = λ c s t k. shows s t k.related;
    counts = λ c s t k. sym k.related.world.allocs;
    holds = λ c s t k. shown_alike b s t k.related;
    advance = λ c s t k runs fine. advances c s t k
        (followed s t k.index k.place k.reached k.there k.related (running_is s.outcome runs) fine);
    stays_a = renewed_stays g;
    stays_b = framed_stays h;
  }

  pub assembled : AgreesBy (AreBuiltOf b) (AreShownAlike b) ours price theirs (λ t. 1)
  assembled =
      weaken_by (λ s t. (c : ℕ) × IsKept c s t) V (AreBuiltOf b) V ours price price theirs (λ t. 1) (λ t. 1)
      (λ s t k. k.1.related) (λ s t v. v) (λ n fine. omega arith) (λ n. omega arith)
      (lockstep_by ours price theirs (λ t. 1) IsKept V (measure g) simulates)

pub followed_keep : (b : Building) (layouts : Layouts) (keep : Keep) (flags : Flags) (roots : Roots)
    (sizes : List Frame) (entry : ℕ) (args : List Word) (answers : List ℤ) (price : State → ℕ)
    → IsGiven b layouts answers → b.framed_code.declarations ≡ b.code.declarations
    → AreBuiltOf b (first_state (edges_split b.code) entry args) (first_state b.framed_code entry args)
    → AreStepsFollowed b (renewed_given (edges_split b.code) keep flags roots sizes answers) entry args
    → KeepsFramedMeaning b layouts keep flags roots sizes entry args answers price
followed_keep b layouts keep flags roots sizes entry args answers price is declared start all built same slots plain pay =
    assembled b layouts keep flags roots sizes entry args answers price is declared pay start all
