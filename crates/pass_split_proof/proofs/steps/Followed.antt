-- Steps of the framed run and what the parts' run does for them: the account of one, of none and of several.
use Rattle.std.proofs.Common.{◌≡◌, ℕ, zero, suc, ◌+◌, ◌<◌, ◌≤◌, inl, inr, Bool, true, false, Option, None, Result, Ok, Err, refl, sym, ap, ◌∙◌, subst, arith}
use Rattle.std.specs.Prelude.{slice_get, unwrap_or}
use Rattle.pass_proofs.specs.ir_base.declared.cause.Cause.{Cause}
use Rattle.pass_proofs.specs.ir_base.declared.outcome.Outcome.{Outcome}
use Rattle.pass_proofs.specs.ir_model.Names.{function_at, position_of}
use Rattle.pass_proofs.specs.ir_model.declared.instr.Instr.{Instr}
use Rattle.pass_proofs.specs.ir_model.declared.instr.Terminator.{Terminator}
use Rattle.pass_proofs.specs.ir_model.declared.operand.Callee.{Callee}
use Rattle.pass_proofs.specs.ir_model.declared.operand.Intrinsic.{Intrinsic}
use Rattle.pass_proofs.specs.pass_intrinsics.Shapes.{is_end}
use Rattle.pass_split_proof.proofs.simulation.Weights.{weight_some}
use Rattle.pass_split_proof.proofs.steps.Branches.{edges_from, edges_know, edges_know_from, edges_related, left_by}
use Rattle.pass_split_proof.proofs.steps.Ordinary.{steps_beside, steps_know}
use Rattle.pass_split_proof.proofs.steps.Settled.{plain_does}
use Rattle.pass_split_proof.specs.places.Places.{Enters, JumpsOn, StartsWithEnd}
use Rattle.pass_split_proof.specs.simulation.Followed.{IsFollowed, ShowsOn}
use Rattle.pass_split_proof.specs.simulation.Knowing.{KnowsGiven}
use Rattle.pass_split_proof.specs.states.Activations.{is_entering}
use Rattle.pass_split_proof.specs.states.Going.{stands_at}
use Rattle.pass_split_proof.specs.states.Related.{AreHeadersKept, AreRelated, IsOn, credit_of, fetched_at, is_behind_suspend, measure, part_price, price_of, weight}
use Rattle.pass_split_proof.specs.steps.Branches.{AreReadablePhis, Entered}
use Rattle.pass_split_proof.specs.steps.Ordinary.{IsAtOrdinary}
use Rattle.pass_proofs.specs.run_agreement.Machines.{IsFine, iterate}
use Rattle.pass_proofs.specs.run_framed.Framed.{FramedGiven, framed_act, framed_advance, framed_context, framed_next, framed_step, given_call}
use Rattle.run_access_worked.specs.run_plain.Plain.{PlainGiven, plain_function, plain_go_to, plain_step, plain_work}
use Rattle.run_access_worked.specs.run_plain.declared.state.PlainState.{PlainState}
use Rattle.pass_proofs.specs.run_source.Source.{go_to, left_windows}
use Rattle.pass_proofs.specs.run_source.State.{function_of, or_undefined, settled, work_of}
use Rattle.pass_proofs.specs.run_source.declared.state.State.{State}
use Rattle.pass_proofs.specs.run_source_tables.Given.{Given}
use Rattle.pass_proofs.specs.run_step.Step.{Action, AtInstr, AtTerm, Done, Fetched, GoTo, Work, action_of, fetch, label_of, phis_of}
use Rattle.pass_split_proof.proofs.states.Headers.{headers_all}
use Rattle.pass_proofs.specs.run_step.declared.world.World.{World}

-- ---- a step of the framed run

-- by what stands at its place, where that is no call which gives a frame
pub framed_does : (g : FramedGiven) (s : State) (here : Fetched) (a : Action) → s.outcome ≡ Outcome.Running
    → fetch (function_of g.given s) s.top.block s.top.at ≡ here → given_call g s here ≡ None
    → action_of (framed_context g s) (work_of s) here ≡ a
    → framed_step g s ≡ or_undefined g.given s (framed_act g s a)
framed_does g s here a runs there given does =
    ap (framed_advance g s) runs
    ∙ ap (λ (x : Fetched). or_undefined g.given s (framed_next g s x)) there
    ∙ ap (λ (o : Option (Result State Cause)). or_undefined g.given s
    (unwrap_or o (framed_act g s (action_of (framed_context g s) (work_of s) here)))) given
    ∙ ap (λ (z : Action). or_undefined g.given s (framed_act g s z)) does

-- what isn't undefined gives a state
pub fine_ok : (g : Given) (s : State) (r : Result State Cause) → IsFine (or_undefined g s r).outcome
    → (u : State) × (r ≡ Ok u)
fine_ok g s (Ok u) f = (u, refl)
fine_ok g s (Err c) f = absurd f

-- ---- the account

module _ (g : FramedGiven) (h : PlainGiven) (s : State) (t : PlainState) (r : AreRelated g h s t)
    (runs : s.outcome ≡ Outcome.Running) where
  -- where the world is the same, so is all that is seen
  pub still_on : {u : PlainState} → u.outcome ≡ Outcome.Running → u.world ≡ t.world → IsOn g s u
  still_on goes same = record {
    goes = runs;
    running = goes;
    events = ap (λ (w : World). w.events) same ∙ r.world.events;
    allocs = ap (λ (w : World). w.allocs) same ∙ r.world.allocs;
    headers = subst (λ (w : World). AreHeadersKept g s w.memory) (sym same)
        (headers_all g s t.world.memory r.frames.headed);
  }

  pub here_on : IsOn g s t
  here_on = still_on (r.outcome ∙ runs) refl

  -- several steps, each of them seen on its way
  pub many_followed : (n : ℕ) (u : State) → n ≤ 9 → 0 < n → framed_step g s ≡ u
      → n + credit_of u ≤ weight (fetched_at g s) + credit_of s
      → ((i : ℕ) → i < n → IsOn g s (iterate (plain_step h) i t)) → AreRelated g h u (iterate (plain_step h) n t)
      → (KnowsGiven g s t → KnowsGiven g u (iterate (plain_step h) n t)) → IsFollowed g h s t
  many_followed n u short pos is few passes related keeps = record {
    steps = n;
    debt = 0;
    within = omega arith;
    short = short;
    few = subst (λ (x : State). n + credit_of x ≤ weight (fetched_at g s) + 0 + credit_of s) (sym is)
        (none_more n (credit_of u) (weight (fetched_at g s)) (credit_of s) few);
    owed = inl refl;
    goes_on = inl pos;
    passes = passes;
    related = subst (λ (x : State). AreRelated g h x (iterate (plain_step h) n t)) (sym is) related;
    keeps = λ k. subst (λ (x : State). KnowsGiven g x (iterate (plain_step h) n t)) (sym is) (keeps k);
  }
    where
      none_more : (n c w k : ℕ) → n + c ≤ w + k → n + c ≤ w + 0 + k
      none_more n c w k le = omega arith

  -- one step, behind which no ramp more waits for its begin
  pub one_followed : (u : State) (w : PlainState) → framed_step g s ≡ u → plain_step h t ≡ w
      → credit_of u ≤ credit_of s → AreRelated g h u w → (KnowsGiven g s t → KnowsGiven g u w) → IsFollowed g h s t
  one_followed u w is goes few related keeps = many_followed 1 u (omega arith) (omega arith) is
      (one_more (credit_of u) (weight (fetched_at g s)) (credit_of s) few (weight_some (fetched_at g s)))
      on_way (subst (AreRelated g h u) (sym goes) related) (λ k. subst (KnowsGiven g u) (sym goes) (keeps k))
    where
      one_more : (c w k : ℕ) → c ≤ k → 1 ≤ w → 1 + c ≤ w + k
      one_more c w k le some = omega arith

      on_way : (i : ℕ) → i < 1 → IsOn g s (iterate (plain_step h) i t)
      on_way zero lt = here_on
      on_way (suc i) lt = absurd (none i lt)
        where
          none : (i : ℕ) → suc i < 1 → ⊥
          none i lt = omega arith

  -- one step that makes another activation, which may be a ramp's
  pub call_followed : (u : State) (w : PlainState) → framed_step g s ≡ u → plain_step h t ≡ w
      → 2 ≤ weight (fetched_at g s) → credit_of u ≤ 1 + credit_of s → AreRelated g h u w
      → (KnowsGiven g s t → KnowsGiven g u w) → IsFollowed g h s t
  call_followed u w is goes heavy few related keeps = many_followed 1 u (omega arith) (omega arith) is
      (one_more (credit_of u) (weight (fetched_at g s)) (credit_of s) few heavy)
      on_way (subst (AreRelated g h u) (sym goes) related) (λ k. subst (KnowsGiven g u) (sym goes) (keeps k))
    where
      one_more : (c w k : ℕ) → c ≤ 1 + k → 2 ≤ w → 1 + c ≤ w + k
      one_more c w k le some = omega arith

      on_way : (i : ℕ) → i < 1 → IsOn g s (iterate (plain_step h) i t)
      on_way zero lt = here_on
      on_way (suc i) lt = absurd (none i lt)
        where
          none : (i : ℕ) → suc i < 1 → ⊥
          none i lt = omega arith

  -- no step, where the measure falls
  pub none_followed : (u : State) → framed_step g s ≡ u → credit_of u ≤ credit_of s → measure g u < measure g s
      → AreRelated g h u t → (KnowsGiven g s t → KnowsGiven g u t) → IsFollowed g h s t
  none_followed u is few falls related keeps = record {
    steps = 0;
    debt = 0;
    within = omega arith;
    short = omega arith;
    few = subst (λ (x : State). 0 + credit_of x ≤ weight (fetched_at g s) + 0 + credit_of s) (sym is)
        (none_more (credit_of u) (weight (fetched_at g s)) (credit_of s) few);
    owed = inl refl;
    goes_on = inr (subst (λ (x : State). measure g x < measure g s) (sym is) falls);
    passes = λ i lt. absurd (none i lt);
    related = subst (λ (x : State). AreRelated g h x t) (sym is) related;
    keeps = λ k. subst (λ (x : State). KnowsGiven g x t) (sym is) (keeps k);
  }
    where
      none_more : (c w k : ℕ) → c ≤ k → 0 + c ≤ w + 0 + k
      none_more c w k le = omega arith

      none : (i : ℕ) → i < 0 → ⊥
      none i lt = omega arith

  -- ---- an ordinary instruction

  pub ordinary_followed : (functions : ℕ → ℕ) (i : Instr) → IsAtOrdinary functions g h s t r i
      → given_call g s (AtInstr i) ≡ None → (v : Work)
      → action_of (framed_context g s) (work_of s) (AtInstr i) ≡ Done v → IsFollowed g h s t
  ordinary_followed functions i k given v does = one_followed (settled s v) (plain_step h t)
      (framed_does g s (AtInstr i) (Done v) runs k.there given does) refl (same (credit_of s))
      (steps_beside functions g h s t r i k v does) (steps_know functions g h s t r i k v does)
    where
      same : (k : ℕ) → k ≤ k
      same k = omega arith

  -- ---- an edge

  module _ (term : Terminator) (label : ℕ) (there : fetch (function_of g.given s) s.top.block s.top.at ≡ AtTerm term)
      (goes : action_of (framed_context g s) (work_of s) (AtTerm term) ≡ GoTo label)
      (fine : IsFine (framed_step g s).outcome)
      (mode : is_entering s.top.mode ≡ false)
      (readable : AreReadablePhis g.given.code h.code (function_at g.given.code s.top.func)
      (label_of (slice_get (function_at g.given.code s.top.func).blocks s.top.block)) r.top.shape.begin
      (phis_of (slice_get (function_at g.given.code s.top.func).blocks
      (position_of (function_at g.given.code s.top.func) label)))) where
    does : framed_step g s ≡ or_undefined g.given s (go_to g.given s label)
    does = framed_does g s (AtTerm term) (GoTo label) runs there refl goes

    -- where it leads
    next : (u : State) × (go_to g.given s label ≡ Ok u)
    next = fine_ok g.given s (go_to g.given s label) (subst (λ (x : State). IsFine x.outcome) does fine)

    entered : Entered g.given s label next.0
    entered = left_by g.given s next.0 label (left_windows g.given s label) next.1

    is : framed_step g s ≡ next.0
    is = does ∙ ap (or_undefined g.given s) next.1

    same_credit : credit_of next.0 ≤ credit_of s
    same_credit = subst (λ (x : State). credit_of x ≤ credit_of s) (sym entered.is) (same (credit_of s))
      where
        same : (k : ℕ) → k ≤ k
        same k = omega arith

    -- straight
    pub straight_followed : Enters r.top.shape r.top.part (function_at g.given.code s.top.func)
        (function_at h.code t.top.func) s.top.block t.top.block label → plain_step h t ≡ plain_go_to h t label
        → IsFollowed g h s t
    straight_followed enters steps = one_followed next.0 (plain_go_to h t label) is steps same_credit
        (edges_related g h s t r label enters readable mode next.0 entered)
        (edges_know g h s t r label enters readable mode next.0 entered)

    -- through the mark of the end, for whose jump the end has room
    module _ (mark : ℕ) (on : JumpsOn (plain_function h t) mark label)
        (enters : Enters r.top.shape r.top.part (function_at g.given.code s.top.func) (function_at h.code t.top.func)
        s.top.block mark label) (begins : StartsWithEnd (function_at g.given.code s.top.func) label)
        (steps : plain_step h t ≡ stands_at t mark 0 (plain_work t)) where
      jumps : plain_step h (stands_at t mark 0 (plain_work t)) ≡ plain_go_to h (stands_at t mark 0 (plain_work t)) label
      jumps = plain_does h (stands_at t mark 0 (plain_work t)) (AtTerm (Terminator.Jump label)) (GoTo label)
          (r.outcome ∙ runs) on.jumps refl

      on_way : (i : ℕ) → i < 2 → IsOn g s (iterate (plain_step h) i t)
      on_way zero lt = here_on
      on_way (suc zero) lt = subst (IsOn g s) (sym steps) (still_on (r.outcome ∙ runs) refl)
      on_way (suc (suc i)) lt = absurd (none i lt)
        where
          none : (i : ℕ) → suc (suc i) < 2 → ⊥
          none i lt = omega arith

      -- the end has room for a step more
      light : (b : Bool) (i : Instr) → is_end i ≡ true → 1 + weight (AtInstr i) ≤ price_of b (AtInstr i)
      light true (Instr.Call x must_tail ty (Callee.Intrinsic Intrinsic.CoroEnd) args) e = omega arith
      light false (Instr.Call x must_tail ty (Callee.Intrinsic Intrinsic.CoroEnd) args) e = omega arith
      light b _ e = absurd (cc)

      end_there : fetched_at g next.0 ≡ AtInstr begins.first
      end_there = subst (λ (x : State). fetched_at g x ≡ AtInstr begins.first) (sym entered.is) begins.here

      has_room : 1 + weight (fetched_at g next.0) ≤ part_price g next.0
      has_room = subst (λ (x : Fetched). 1 + weight x ≤ price_of (is_behind_suspend g next.0) x) (sym end_there)
          (light (is_behind_suspend g next.0) begins.first begins.ends)

      -- the jump changes no memory
      still : (i : ℕ) → 2 ≤ i + 1 → i < 2
          → (iterate (plain_step h) i t).world.memory ≡ (iterate (plain_step h) 2 t).world.memory
      still zero low lt = absurd (none low)
        where
          none : 2 ≤ 0 + 1 → ⊥
          none low = omega arith
      still (suc zero) low lt = ap (λ (y : PlainState). y.world.memory) steps
          ∙ sym (ap (λ (y : PlainState). y.world.memory) (ap (plain_step h) steps ∙ jumps))
      still (suc (suc i)) low lt = absurd (none i lt)
        where
          none : (i : ℕ) → suc (suc i) < 2 → ⊥
          none i lt = omega arith

      shows : ShowsOn s next.0
      shows = subst (ShowsOn s) (sym entered.is) (record { goes = runs; events = refl; allocs = refl })

      pub through_followed : IsFollowed g h s t
      through_followed = record {
        steps = 2;
        debt = 1;
        within = omega arith;
        short = omega arith;
        few = subst (λ (x : State). 2 + credit_of x ≤ weight (fetched_at g s) + 1 + credit_of s) (sym is)
            (two_more (credit_of next.0) (weight (fetched_at g s)) (credit_of s) same_credit
            (weight_some (fetched_at g s)));
        owed = inr (record {
          room = subst (λ (x : State). 1 + weight (fetched_at g x) ≤ part_price g x) (sym is) has_room;
          shows = subst (ShowsOn s) (sym is) shows;
          still = still;
        });
        goes_on = inl (omega arith);
        passes = on_way;
        related = subst (λ (x : State). AreRelated g h x (iterate (plain_step h) 2 t)) (sym is)
            (subst (AreRelated g h next.0) (sym (ap (plain_step h) steps ∙ jumps))
            (edges_from g h s t r label mark enters readable mode next.0 entered));
        keeps = λ k. subst (λ (x : State). KnowsGiven g x (iterate (plain_step h) 2 t)) (sym is)
            (subst (KnowsGiven g next.0) (sym (ap (plain_step h) steps ∙ jumps))
            (edges_know_from g h s t r label mark enters readable mode next.0 entered k));
      }
        where
          two_more : (c w k : ℕ) → c ≤ k → 1 ≤ w → 2 + c ≤ w + 1 + k
          two_more c w k le some = omega arith
