-- One step of the run that hands values on is some steps of the run that makes slots anew, each of which is followed in the
-- framed run.
use Rattle.std.proofs.Common.{◌≡◌, ℕ, zero, suc, ◌+◌, ◌-◌, ◌<◌, ◌≤◌, ◌⊎◌, inl, inr, ⊎_elim, map, refl, sym, ap, ◌∙◌, subst, arith}
use Rattle.std.proofs.lemmas.Bool.{cases_lt}
use Rattle.std.specs.Prelude.{slice_get}
use Rattle.pass_frames_proof.specs.frame_layout.declared.layout.Layouts.{Layouts}
use Rattle.pass_frames_proof.specs.ir_base.declared.outcome.Outcome.{Outcome}
use Rattle.pass_frames_proof.specs.ir_model.Names.{function_at}
use Rattle.pass_frames_meaning.specs.Covered.{IsKeptOver, AgreesWithFrames, AreCoveredStepsFollowed, AreStepsPaid, IsCovered, Makes, Stands}
use Rattle.pass_frames_proof.proofs.followed.Assembly.{cost_ones, events_same, framed_stays, running_is, seen_same}
use Rattle.pass_frames_proof.proofs.followed.Assembly.{shown_alike}
use Rattle.pass_frames_proof.specs.Followed.{IsFollowed as FrameFollowed, IsGiven, IsOn, instr_count, measure}
use Rattle.pass_frames_proof.specs.Followed.{renewed_state_at}
use Rattle.pass_frames_proof.specs.Meaning.{step_cost}
use Rattle.pass_frames_proof.specs.Related.{AreBuiltOf, AreShownAlike, Building}
use Rattle.pass_frames_proof.specs.pass_kept_proof.Kept.{continue_keeping}
use Rattle.pass_frames_proof.specs.pass_kept_proof.Machines.{kept_machine}
use Rattle.pass_renewed_meaning.proofs.Assembly.{alike, counts, kept_stays, shows}
use Rattle.pass_renewed_meaning.proofs.Dispatch.{each_step}
use Rattle.pass_renewed_meaning.specs.Followed.{AreAlike, AreInStep, Ended, Goes, IsFollowed, IsOnItsWay}
use Rattle.pass_renewed_meaning.specs.Offsets.{first_at}
use Rattle.pass_renewed_meaning.specs.Rules.{KeepsAll, Setting}
use Rattle.pass_renewed_meaning.specs.Runs.{first_given, first_step, second_given}
use Rattle.pass_frames_proof.proofs.pass_renewed_proof.Start.{first_beside}
use Rattle.pass_frames_proof.specs.pass_renewed_proof.Beside.{IsBeside}
use Rattle.pass_frames_proof.specs.pass_renewed_proof.Prices.{Prices, kept_price, renewed_machine, renewed_price}
use Rattle.pass_frames_proof.specs.pass_renewed_proof.Renewed.{RenewedGiven, renewed_step}
use Rattle.pass_frames_proof.proofs.run_agreement.Costs.{weaken_by}
use Rattle.pass_frames_proof.proofs.run_agreement.PricedLockstep.{AdvanceBy, IsPassed, SimulatesBy, lockstep_by}
use Rattle.pass_frames_proof.proofs.run_agreement.Runs.{iterate-add}
use Rattle.pass_frames_proof.proofs.run_agreement.Shows.{ShowsSame}
use Rattle.pass_frames_proof.specs.run_agreement.Costs.{Through, cost_from}
use Rattle.pass_frames_proof.specs.run_agreement.Machines.{IsFine, IsRunning, Machine, iterate}
use Rattle.pass_frames_proof.specs.run_framed.Framed.{FramedGiven, framed_given, framed_state_at, framed_step}
use Rattle.pass_frames_proof.specs.run_source.Source.{first_state}
use Rattle.pass_frames_proof.specs.run_source.declared.state.Activation.{Activation}
use Rattle.pass_frames_proof.specs.run_source.declared.state.State.{State}
use Rattle.pass_frames_proof.specs.run_states.moved_states.Beside.{framed_machine}
use Rattle.pass_frames_proof.specs.run_step.Runs.{seen_event}

-- ---- steps in a row

step_last : {A : Type 0} (f : A → A) (j : ℕ) (u : A) → iterate f (suc j) u ≡ f (iterate f j u)
step_last f zero u = refl
step_last f (suc j) u = step_last f j (f u)

cost_last : {A : Type 0} (f : A → A) (price : A → ℕ) (j : ℕ) (u : A)
    → cost_from f price (suc j) u ≡ cost_from f price j u + price (iterate f j u)
cost_last f price zero u = omega arith
cost_last f price (suc j) u =
    let k : cost_from f price (suc j) (f u) ≡ cost_from f price j (f u) + price (iterate f j (f u)) =
    cost_last f price j (f u) in
    sums (price u) (cost_from f price (suc j) (f u)) (cost_from f price j (f u)) (price (iterate f j (f u))) k
  where
    sums : (a b d e : ℕ) → b ≡ d + e → a + b ≡ (a + d) + e
    sums a b d e k = omega (arith, k)

fine_running : (o : Outcome) → o ≡ Outcome.Running → IsFine o
fine_running o e = subst IsFine (sym e) tt

module _ (c : Setting) (p : Prices) (b : Building) (layouts : Layouts) (all : KeepsAll c)
    (is : IsGiven b layouts c.answers) (declared : b.framed_code.declarations ≡ c.code.declarations)
    (pay : AreStepsPaid c b p)
    (start : AreBuiltOf b (first_state c.code c.entry c.args) (first_state b.framed_code c.entry c.args))
    (Holds : State → Type 0) (over : IsKeptOver c b Holds) (follow : AreCoveredStepsFollowed c b Holds) where
  abbrev h : RenewedGiven
  h = second_given c

  abbrev step : State → State
  step = renewed_step (second_given c)

  abbrev price : State → ℕ
  price = renewed_price p (second_given c).given

  abbrev framed : State → State
  framed = framed_step b.given

  abbrev ours : Machine State
  ours = kept_machine c.code c.keep c.sizes c.entry c.args c.answers

  abbrev between : Machine State
  between = renewed_machine c.code c.keep c.flags c.roots c.sizes c.entry c.args c.answers

  abbrev theirs : Machine State
  theirs = framed_machine b.framed_code layouts c.entry c.args c.answers

  abbrev In : State → State → Type 0
  In = AreInStep c.code c.flags c.roots

  abbrev V : State → State → Type 0
  V = Through AreAlike (AreShownAlike b)

  -- a state in step, and the framed one that is related to it; all three are of runs
  record IsKept (credit : ℕ) (s t : State) : Type 0 where
    renewed : State
    in_step : AreInStep c.code c.flags c.roots s renewed
    built : AreBuiltOf b renewed t
    holds : Holds renewed
    index : ℕ
    reached : s ≡ first_at c index
    second : ℕ
    second_is : renewed ≡ renewed_state_at (second_given c) c.entry c.args second
    place : ℕ
    there : t ≡ framed_state_at b.given c.entry c.args place

  alike_in : (s u : State) → AreInStep c.code c.flags c.roots s u → AreAlike s u
  alike_in = alike c.code c.keep c.flags c.roots c.sizes c.entry c.args c.answers p

  shows_in : (s u : State) → AreInStep c.code c.flags c.roots s u → ShowsSame (between.seen u) (ours.seen s)
  shows_in = shows c.code c.keep c.flags c.roots c.sizes c.entry c.args c.answers p

  seen_built : (u t : State) → t.world.events ≡ u.world.events
      → map (seen_event b.framed_code) t.world.events ≡ map (seen_event c.code) u.world.events
  seen_built u t e = seen_same b.framed_code c.code declared t.world.events u.world.events e

  -- ---- places

  measure_in : (s u : State) → AreInStep c.code c.flags c.roots s u
      → measure (second_given c) u ≡ measure (second_given c) s
  measure_in s u (Goes k) =
      ap (λ (z : Activation). instr_count (slice_get (function_at c.code z.func).blocks z.block) - z.at) k.top.is
  measure_in s u (Ended e) =
      ap (measure (second_given c)) e.last.other_is
      ∙ ap (λ (z : Activation). instr_count (slice_get (function_at c.code z.func).blocks z.block) - z.at)
      e.last.beside.top.is
      ∙ sym (ap (measure (second_given c)) e.last.is)

  -- ---- one step of the first run

  module _ (credit : ℕ) (s t : State) (k : IsKept credit s t) (runs : IsRunning s.outcome)
      (beside : IsBeside c.code c.flags c.roots s k.renewed) (fine : IsFine (first_step c s).outcome)
      (f : IsFollowed (first_given c) (second_given c) p s k.renewed) where
    abbrev u : State
    u = k.renewed

    abbrev after : State
    after = first_step c s

    abbrev at : ℕ → State
    at j = iterate (renewed_step (second_given c)) j k.renewed

    abbrev Passes : State → Type 0
    Passes x = IsPassed ours theirs (Through AreAlike (AreShownAlike b)) s x
        ⊎ IsPassed ours theirs (Through AreAlike (AreShownAlike b)) (first_step c s) x

    -- a state of the first run that shows what the second shows after so many steps
    record Meets (j : ℕ) : Type 0 where
      who : State
      which : (who ≡ s) ⊎ (who ≡ first_step c s)
      events : map (seen_event c.code) (iterate (renewed_step (second_given c)) j k.renewed).world.events
          ≡ map (seen_event c.code) who.world.events
      like : AreAlike who (iterate (renewed_step (second_given c)) j k.renewed)

    run_at : (j : ℕ) → at j ≡ renewed_state_at (second_given c) c.entry c.args (k.second + j)
    run_at j = ap (iterate step j) k.second_is ∙ sym (iterate-add step k.second j (first_state c.code c.entry c.args))

    paid : (j : ℕ) → step_cost b (second_given c) (at j) (at j).top.mode ≤ price (at j)
    paid j = subst (λ (z : State). step_cost b (second_given c) z z.top.mode ≤ price z) (sym (run_at j))
        (pay (k.second + j))

    on_way : (j : ℕ) → 0 < j → j < f.steps → IsOnItsWay (first_step c s) (at j)
    on_way j pos lt = f.between j pos lt

    -- no step, some, or all
    data Where (j : ℕ) : Type 0 where
      First : j ≡ 0 → Where j
      Inside : 0 < j → j < f.steps → Where j
      Last : j ≡ f.steps → Where j

    where_is : (j : ℕ) → j ≤ f.steps → Where j
    where_is zero le = First refl
    where_is (suc j) le = ⊎_elim (λ lt. Inside (omega arith) lt) (λ ge. Last (omega (arith, le, ge)))
        (cases_lt (suc j) f.steps)

    meets : (j : ℕ) → j ≤ f.steps → Meets j
    meets j le = on (where_is j le)
      where
        on : Where j → Meets j
        on (First e) =
            let n = shows_in s k.renewed (Goes beside) in
            subst Meets (sym e) (record {
              who = s;
              which = inl refl;
              events = n.events;
              like = alike_in s k.renewed (Goes beside);
            })
        on (Inside pos lt) =
            let w = on_way j pos lt in
            record {
              who = first_step c s;
              which = inr refl;
              events = ap (map (seen_event c.code)) w.events;
              like = w.alike;
            }
        on (Last e) =
            let n = shows_in (first_step c s) (at f.steps) f.related in
            subst Meets (sym e) (record {
              who = first_step c s;
              which = inr refl;
              events = n.events;
              like = alike_in (first_step c s) (at f.steps) f.related;
            })

    passed : (j : ℕ) → Meets j → (x : State) → x.outcome ≡ Outcome.Running → AreShownAlike b (at j) x → Passes x
    passed j n x running shown = on n.which
      where
        one : (w : State) → n.who ≡ w → IsPassed ours theirs (Through AreAlike (AreShownAlike b)) w x
        one w e = record {
          runs = running;
          events = seen_built (at j) x shown.events ∙ n.events
              ∙ ap (λ (z : State). map (seen_event c.code) z.world.events) e;
          holds = (at j, subst (λ (z : State). AreAlike z (at j)) e n.like, shown);
        }

        on : (n.who ≡ s) ⊎ (n.who ≡ first_step c s) → Passes x
        on (inl e) = inl (one s e)
        on (inr e) = inr (one (first_step c s) e)

    running_at : (j : ℕ) → j < f.steps → (at j).outcome ≡ Outcome.Running
    running_at zero lt = beside.outcome ∙ running_is s.outcome runs
    running_at (suc j) lt = (on_way (suc j) (omega arith) lt).running

    fine_at : (j : ℕ) → j ≤ f.steps → IsFine (at j).outcome
    fine_at j le = ⊎_elim (λ lt. fine_running (at j).outcome (running_at j lt))
        (λ ge. last (omega (arith, le, ge))) (cases_lt j f.steps)
      where
        last : j ≡ f.steps → IsFine (at j).outcome
        last e =
            subst (λ (n : ℕ). IsFine (at n).outcome) (sym e)
            (subst IsFine (sym (shows_in (first_step c s) (at f.steps) f.related).outcome) fine)

    covered : (j : ℕ) → j < f.steps → IsCovered c (at j)
    covered zero lt = Stands k.index (subst (λ (z : State). IsBeside c.code c.flags c.roots z k.renewed) k.reached beside)
        (subst (λ (z : State). IsFine (first_step c z).outcome) k.reached fine)
    covered (suc j) lt = Makes (on_way (suc j) (omega arith) lt).entering

    -- the framed run, beside the second one's state after j steps
    record Way (j : ℕ) : Type 0 where
      steps : ℕ
      few : steps ≤ cost_from (renewed_step (second_given c)) (renewed_price p (second_given c).given) j k.renewed
      built : AreBuiltOf b (iterate (renewed_step (second_given c)) j k.renewed) (iterate (framed_step b.given) steps t)
      holds : Holds (iterate (renewed_step (second_given c)) j k.renewed)
      passes : (i : ℕ) → 0 < i → i < steps → Passes (iterate (framed_step b.given) i t)
      falls : (0 < steps) ⊎ ((j ≡ 0)
          ⊎ (measure (second_given c) (iterate (renewed_step (second_given c)) j k.renewed)
          < measure (second_given c) k.renewed))

    module _ (j : ℕ) (lt : j < f.steps) (steps : ℕ)
        (built : AreBuiltOf b (iterate (renewed_step (second_given c)) j k.renewed) (iterate (framed_step b.given) steps t))
        (holds : Holds (iterate (renewed_step (second_given c)) j k.renewed)) where
      now : at j ≡ renewed_state_at (second_given c) c.entry c.args (k.second + j)
      now = run_at j

      there : iterate framed steps t ≡ framed_state_at b.given c.entry c.args (k.place + steps)
      there = ap (iterate framed steps) k.there
          ∙ sym (iterate-add framed k.place steps (first_state b.given.given.code c.entry c.args))

      follows : FrameFollowed b (second_given c) (iterate (renewed_step (second_given c)) j k.renewed)
          (iterate (framed_step b.given) steps t)
      follows =
          by (at j) (iterate framed steps t) now there (covered j lt) built (running_at j lt) holds
          (subst (λ (z : State). IsFine z.outcome) (step_last step j k.renewed) (fine_at (suc j) (omega (arith, lt))))
        where
          by : (x y : State) → x ≡ renewed_state_at (second_given c) c.entry c.args (k.second + j)
              → y ≡ framed_state_at b.given c.entry c.args (k.place + steps) → IsCovered c x → AreBuiltOf b x y
              → x.outcome ≡ Outcome.Running → Holds x → IsFine (renewed_step (second_given c) x).outcome
              → FrameFollowed b (second_given c) x y
          by x y ex ey = subst (λ (z : State × State). IsCovered c z.0 → AreBuiltOf b z.0 z.1
              → z.0.outcome ≡ Outcome.Running → Holds z.0 → IsFine (renewed_step (second_given c) z.0).outcome
              → FrameFollowed b (second_given c) z.0 z.1) (λ i. (sym ex i, sym ey i))
              (follow (k.second + j) (k.place + steps))

      holds_on : Holds (renewed_step (second_given c) (iterate (renewed_step (second_given c)) j k.renewed))
      holds_on = by (at j) (iterate framed steps t) now there (covered j lt) built (running_at j lt) holds
        where
          by : (x y : State) → x ≡ renewed_state_at (second_given c) c.entry c.args (k.second + j)
              → y ≡ framed_state_at b.given c.entry c.args (k.place + steps) → IsCovered c x → AreBuiltOf b x y
              → x.outcome ≡ Outcome.Running → Holds x → Holds (renewed_step (second_given c) x)
          by x y ex ey = subst (λ (z : State × State). IsCovered c z.0 → AreBuiltOf b z.0 z.1
              → z.0.outcome ≡ Outcome.Running → Holds z.0 → Holds (renewed_step (second_given c) z.0))
              (λ i. (sym ex i, sym ey i)) (over.step (k.second + j) (k.place + steps))

    abbrev Falls : ℕ → Type 0
    Falls x = measure (second_given c) (iterate (renewed_step (second_given c)) x k.renewed)
        < measure (second_given c) k.renewed

    way_on : (j : ℕ) → j < f.steps → Way j → Way (suc j)
    way_on j lt w = record {
      steps = w.steps + n.steps;
      few = sums w.steps n.steps (step_cost b (second_given c) (at j) (at j).top.mode) (price (at j))
          (cost_from step price j k.renewed) (cost_from step price (suc j) k.renewed) w.few n.few (paid j)
          (cost_last step price j k.renewed);
      built = subst (λ (z : State × State). AreBuiltOf b z.0 z.1)
          (λ i. (sym (step_last step j k.renewed) i, sym (iterate-add framed w.steps n.steps t) i)) n.related;
      holds = subst Holds (sym (step_last step j k.renewed)) (holds_on j lt w.steps w.built w.holds);
      passes = λ i pos less. ⊎_elim (λ below. w.passes i pos below) (λ ge. later i pos less ge (i - w.steps) refl)
          (cases_lt i w.steps);
      falls = falls w.falls n.goes_on;
    }
      where
        n : FrameFollowed b (second_given c) (iterate (renewed_step (second_given c)) j k.renewed)
            (iterate (framed_step b.given) w.steps t)
        n = follows j lt w.steps w.built w.holds

        sums : (x y cost one few more : ℕ) → x ≤ few → y ≤ cost → cost ≤ one → more ≡ few + one → x + y ≤ more
        sums x y cost one few more a d e g = omega (arith, a, d, e, g)

        shown_there : AreShownAlike b (at j) (iterate framed w.steps t)
        shown_there = shown_alike b (at j) (iterate framed w.steps t) w.built

        at_join : Passes (iterate framed w.steps t)
        at_join = passed j (meets j (omega (arith, lt))) (iterate framed w.steps t)
            (w.built.outcome ∙ running_at j lt) shown_there

        on_one : (x : State) → IsOn b (at j) x ⊎ IsOn b (renewed_step (second_given c) (at j)) x → Passes x
        on_one x (inl on) = passed j (meets j (omega (arith, lt))) x on.running on.shown
        on_one x (inr on) = passed (suc j) (meets (suc j) (omega (arith, lt))) x on.running
            (subst (λ (z : State). AreShownAlike b z x) (sym (step_last step j k.renewed)) on.shown)

        later : (i : ℕ) → 0 < i → i < w.steps + n.steps → w.steps ≤ i → (q : ℕ) → i - w.steps ≡ q
            → Passes (iterate framed i t)
        later i pos less ge zero e =
            let same : w.steps ≡ i = omega (arith, ge, e) in
            subst (λ (z : ℕ). Passes (iterate framed z t)) same at_join
        later i pos less ge (suc q) e =
            let same : w.steps + suc q ≡ i = omega (arith, ge, e) in
            let low : suc q < n.steps = omega (arith, less, ge, e) in
            subst (λ (z : ℕ). Passes (iterate framed z t)) same
            (subst Passes (sym (iterate-add framed w.steps (suc q) t))
            (on_one (iterate framed (suc q) (iterate framed w.steps t)) (n.passes (suc q) (omega arith) low)))

        down : (j ≡ 0) ⊎ Falls j
            → measure (second_given c) (renewed_step (second_given c) (at j)) < measure (second_given c) (at j)
            → Falls (suc j)
        down (inl e) less =
            let same : measure (second_given c) (at j) ≡ measure (second_given c) k.renewed =
            ap (λ (x : ℕ). measure (second_given c) (at x)) e in
            let last : measure (second_given c) (at (suc j)) ≡ measure (second_given c) (renewed_step (second_given c) (at j)) =
            ap (measure (second_given c)) (step_last step j k.renewed) in
            omega (arith, same, last, less)
        down (inr lower) less =
            let last : measure (second_given c) (at (suc j)) ≡ measure (second_given c) (renewed_step (second_given c) (at j)) =
            ap (measure (second_given c)) (step_last step j k.renewed) in
            omega (arith, lower, last, less)

        falls : (0 < w.steps) ⊎ ((j ≡ 0) ⊎ Falls j)
            → (0 < n.steps) ⊎ (measure (second_given c) (renewed_step (second_given c) (at j)) < measure (second_given c) (at j))
            → (0 < w.steps + n.steps) ⊎ ((suc j ≡ 0) ⊎ Falls (suc j))
        falls (inl pos) g = inl (omega (arith, pos))
        falls (inr z) (inl pos) = inl (omega (arith, pos))
        falls (inr z) (inr less) = inr (inr (down z less))

    ways : (j : ℕ) → j ≤ f.steps → Way j
    ways zero le = record {
      steps = 0;
      few = omega arith;
      built = k.built;
      holds = k.holds;
      passes = λ i pos lt. absurd (omega (arith, pos, lt));
      falls = inr (inl refl);
    }
    ways (suc j) le = way_on j (omega (arith, le)) (ways j (omega (arith, le)))

    -- ---- all of it

    same_step : (i : ℕ) (x : State)
        → iterate framed i x ≡ iterate (framed_step (framed_given b.framed_code layouts.coroutines c.answers)) i x
    same_step i x = ap (λ (q : FramedGiven). iterate (framed_step q) i x) is

    advances : AdvanceBy ours (kept_price p c.flags (first_given c)) theirs (λ t. 1) IsKept V (measure (second_given c))
        credit s t
    advances = record {
      steps = w.steps;
      credit = 0;
      few = costs w.steps _ (cost_from step price f.steps k.renewed) (kept_price p c.flags (first_given c) s) credit
          (cost_ones (framed_step (framed_given b.framed_code layouts.coroutines c.answers)) w.steps t) w.few f.few;
      goes_on = goes w.falls;
      between = λ i pos lt. subst (λ (x : State). Passes x) (same_step i t) (w.passes i pos lt);
      related = record {
        renewed = at f.steps;
        in_step = f.related;
        built = subst (AreBuiltOf b (at f.steps)) (same_step w.steps t) w.built;
        holds = w.holds;
        index = k.index + 1;
        reached = ap (first_step c) k.reached
            ∙ sym (iterate-add (first_step c) k.index 1 (first_state c.code c.entry c.args));
        second = k.second + f.steps;
        second_is = ap (iterate step f.steps) k.second_is
            ∙ sym (iterate-add step k.second f.steps (first_state c.code c.entry c.args));
        place = k.place + w.steps;
        there = sym (same_step w.steps t) ∙ ap (iterate framed w.steps) k.there
            ∙ sym (iterate-add framed k.place w.steps (first_state b.given.given.code c.entry c.args));
      };
    }
      where
        w : Way f.steps
        w = ways f.steps (omega arith)

        costs : (n x y z d : ℕ) → x ≡ n → n ≤ y → y ≤ z → x + 0 ≤ z + d
        costs n x y z d e a g = omega (arith, e, a, g)

        goes : (0 < w.steps) ⊎ ((f.steps ≡ 0) ⊎ (measure (second_given c) (at f.steps) < measure (second_given c) k.renewed))
            → (0 < w.steps) ⊎ (measure (second_given c) (first_step c s) < measure (second_given c) s)
        goes (inl pos) = inl pos
        goes (inr (inl z)) = let some = f.some in absurd (omega (arith, some, z))
        goes (inr (inr less)) =
            let one = measure_in s k.renewed (Goes beside) in
            let two = measure_in (first_step c s) (at f.steps) f.related in
            inr (omega (arith, one, two, less))

  -- ---- the two runs

  beside_of : (s u : State) → AreInStep c.code c.flags c.roots s u → IsRunning s.outcome
      → IsBeside c.code c.flags c.roots s u
  beside_of s u (Goes k) runs = k
  beside_of s u (Ended e) runs = absurd (e.over runs)

  followed : (s u : State) (index : ℕ) → s ≡ first_at c index → IsBeside c.code c.flags c.roots s u
      → s.outcome ≡ Outcome.Running → IsFine (first_step c s).outcome
      → IsFollowed (first_given c) (second_given c) p s u
  followed s u index reached =
      subst (λ (x : State). IsBeside c.code c.flags c.roots x u → x.outcome ≡ Outcome.Running
      → IsFine (first_step c x).outcome → IsFollowed (first_given c) (second_given c) p x u) (sym reached)
      (each_step c p all index u)

  simulates : SimulatesBy ours (kept_price p c.flags (first_given c)) theirs (λ t. 1) IsKept V (measure (second_given c))
  simulates = record {
    begin = record {
      renewed = first_state c.code c.entry c.args;
      in_step = Goes (first_beside c.code c.keep c.flags c.roots all.slots c.entry c.args all.globals);
      built = start;
      holds = over.first;
      index = 0;
      reached = refl;
      second = 0;
      second_is = refl;
      place = 0;
      there = ap (λ (q : FramedGiven). first_state q.given.code c.entry c.args) (sym is);
    };
    same = λ d s t k.
        let n = shows_in s k.renewed k.in_step in
        record {
          events = seen_built k.renewed t (events_same b k.renewed t k.built) ∙ n.events;
          outcome = k.built.outcome ∙ n.outcome;
        };
    counts = λ d s t k.
        counts c.code c.keep c.flags c.roots c.sizes c.entry c.args c.answers p s k.renewed k.in_step
        ∙ sym k.built.world.allocs;
    holds = λ d s t k. (k.renewed, alike_in s k.renewed k.in_step, shown_alike b k.renewed t k.built);
    advance = λ d s t k runs fine.
        let beside = beside_of s k.renewed k.in_step runs in
        advances d s t k runs beside fine
        (followed s k.renewed k.index k.reached beside (running_is s.outcome runs) fine);
    stays_a = kept_stays (first_given c) (continue_keeping (first_given c) c.keep);
    stays_b = framed_stays (framed_given b.framed_code layouts.coroutines c.answers);
  }

  pub kept_agrees : AgreesWithFrames c p b layouts
  kept_agrees =
      weaken_by (λ s t. (d : ℕ) × IsKept d s t) V (Through In (AreBuiltOf b)) V ours
      (kept_price p c.flags (first_given c)) (kept_price p c.flags (first_given c)) theirs (λ t. 1) (λ t. 1)
      (λ s t k. (k.1.renewed, k.1.in_step, k.1.built)) (λ s t v. v) (λ n fine. omega arith) (λ n. omega arith)
      (lockstep_by ours (kept_price p c.flags (first_given c)) theirs (λ t. 1) IsKept V (measure (second_given c))
      simulates)
