-- Resumes and destroys: the second run makes slots anew on its way, and the first run's step pays for them.
use Rattle.std.proofs.Common.{◌≡◌, ℕ, zero, suc, ◌+◌, ◌<◌, ◌≤◌, ◌⊎◌, inl, inr, Bool, true, false, not, List, [], ◌∷◌, length}
use Rattle.std.proofs.Common.{Option, Some, None, Result, Ok, Err, refl, sym, ap, ◌∙◌, subst, arith, ⊎_elim, ◌||◌}
use Rattle.std.specs.Prelude.{slice_get, IsTrue}
use Rattle.run_types.specs.ir_base.declared.cause.Cause.{Cause}
use Rattle.run_types.specs.ir_base.declared.outcome.Outcome.{Outcome}
use Rattle.run_types.specs.ir_model.Names.{function_at, position_of}
use Rattle.run_types.specs.ir_model.Ty.{Ty}
use Rattle.run_types.specs.ir_model.declared.instr.Instr.{Instr}
use Rattle.run_types.specs.ir_model.declared.module.Block.{Block}
use Rattle.run_types.specs.ir_model.declared.module.Function.{Function}
use Rattle.run_types.specs.ir_model.declared.operand.Arg.{Arg}
use Rattle.run_types.specs.ir_model.declared.operand.Callee.{Callee}
use Rattle.run_types.specs.ir_model.declared.operand.Intrinsic.{Intrinsic}
use Rattle.run_types.specs.ir_paths.Paths.{entry_point, has_point, same_point}
use Rattle.run_types.specs.ir_paths.Windows.{destroy_label, is_call_of, resume_label}
use Rattle.run_types.specs.ir_paths.declared.point.Point.{Point}
use Rattle.run_types.specs.ir_laws.facts.expanded.Tokens.{IsNamedResult}
use Rattle.run_types.specs.pass_kept_proof.Kept.{continue_keeping}
use Rattle.run_types.specs.pass_kept_proof.Needed.{BranchesTo}
use Rattle.run_types.specs.rule_windows.Windows.{own_edges}
use Rattle.run_types.specs.run_agreement.Costs.{cost_from}
use Rattle.run_types.specs.run_agreement.Machines.{iterate}
use Rattle.run_types.specs.run_hooks.Away.{HasStop}
use Rattle.run_types.specs.run_laws.memory.Pointers.{IsValue}
use Rattle.run_types.specs.run_memory.declared.pointer.Pointer.{Pointer}
use Rattle.run_types.specs.run_memory.declared.pointer.Value.{Value}
use Rattle.run_types.specs.run_source.Source.{Sleeper, context_of, sleeper_at, sleeper_of}
use Rattle.run_types.specs.run_source.State.{began_at, instance_at, last_from, or_undefined, work_of}
use Rattle.run_types.specs.run_source.declared.state.Instance.{Instance}
use Rattle.run_types.specs.run_source.declared.state.Mode.{Mode}
use Rattle.run_types.specs.run_source.declared.state.State.{State}
use Rattle.run_types.specs.run_source.declared.state.Status.{Status}
use Rattle.run_types.specs.run_source_tables.Given.{is_final}
use Rattle.run_states.proofs.sound_states.Fits.{result_named}
use Rattle.run_states.specs.sound_states.Sound.{IsSoundStatus}
use Rattle.run_types.specs.run_step.Results.{and_then, found, ok_if}
use Rattle.run_types.specs.run_step.Step.{AtInstr, action_of, fetch, fetch_in, phis_of}
use Rattle.run_types.specs.run_step.Values.{arg_values, nth}
use Rattle.run_types.specs.run_laws.changed.Changed.{result_at}
use Rattle.pass_renewed_meaning.proofs.Handles.{IsInSlot, arg_there, no_instance}
use Rattle.pass_renewed_meaning.proofs.Here.{Here, first_act, first_action, keeps, other}
use Rattle.pass_renewed_meaning.proofs.Points.{giving_call}
use Rattle.pass_renewed_meaning.proofs.Resuming.{on_way, resumes_beside, resumes_cost}
use Rattle.pass_renewed_meaning.specs.Followed.{Goes, IsFollowed, IsOnItsWay}
use Rattle.pass_renewed_meaning.specs.Resumes.{IsResuming}
use Rattle.pass_renewed_meaning.specs.Rules.{Setting}
use Rattle.pass_renewed_meaning.specs.Runs.{first_given, first_step, second_given}
use Rattle.run_types.proofs.pass_renewed_proof.Finishing.{found_in}
use Rattle.run_types.proofs.pass_renewed_proof.Next.{prices_add}
use Rattle.run_types.specs.pass_renewed_proof.Entering.{Anew, anew_in, price_of_all}
use Rattle.run_types.proofs.pass_renewed_proof.Sleeping.{sleeper_beside}
use Rattle.run_types.specs.pass_renewed_proof.Beside.{IsBeside}
use Rattle.run_types.specs.pass_renewed_proof.Found.{IsSleeperBeside}
use Rattle.run_types.specs.pass_renewed_proof.Making.{IsGiving}
use Rattle.run_types.specs.pass_renewed_proof.Prices.{Prices, anew_price, kept_price, price_in, price_of, renewed_price, resumed_in}
use Rattle.run_types.specs.pass_renewed_proof.Prices.{coroutine_of, resumed_by, slots_from, slots_in}
use Rattle.run_types.specs.pass_renewed_proof.Renewed.{continue_renewed, renewed_advance, renewed_next, renewed_step}
use Rattle.run_types.specs.pass_renewed_proof.Steps.{given_at}

same_ok : {A : Type 0} {a b : A} → ◌≡◌ {A = Result A Cause} (Ok a) (Ok b) → a ≡ b
same_ok e = cc

-- ---- the instance that is found

pub record IsThere (s : State) (y : Sleeper) : Type 0 where
  pub there : slice_get s.instances y.number ≡ Some y.instance
  pub status : y.instance.status ≡ Status.Suspended y.suspend y.values

pub sleeper_there : (s : State) (v : Value) (y : Sleeper) → sleeper_at s v ≡ Ok y → IsThere s y
sleeper_there s v y e = on (instance_at s.instances v) refl e
  where
    by : (r : ℕ × Instance) → slice_get s.instances r.0 ≡ Some r.1 → (status : Status) → r.1.status ≡ status → sleeper_of
        r.0 r.1 status ≡ Ok y → IsThere s y
    by r there Status.Running is k = let z : ◌≡◌ {A = Result Sleeper Cause} (Err Cause.State) (Ok y) = k in absurd (cc)
    by r there Status.Finished is k = let z : ◌≡◌ {A = Result Sleeper Cause} (Err Cause.State) (Ok y) = k in absurd (cc)
    by r there (Status.Suspended u env) is k = subst (IsThere s) (same k) (record { there = there; status = is })
      where
        same : {a b : Sleeper} → ◌≡◌ {A = Result Sleeper Cause} (Ok a) (Ok b) → a ≡ b
        same k = cc

    at : (v : Value) (r : ℕ × Instance) → instance_at s.instances v ≡ Some r → slice_get s.instances r.0 ≡ Some r.1
    at (Value.Ptr (Pointer.At b o)) r k = found_in s.instances (last_from (began_at b o.bits) 0 s.instances) r k
    at (Value.Ptr Pointer.Null) r k = absurd (cc)
    at (Value.Ptr (Pointer.Func f)) r k = absurd (cc)
    at (Value.Int n) r k = absurd (cc)
    at Value.Poison r k = absurd (cc)

    on : (o : Option (ℕ × Instance)) → instance_at s.instances v ≡ o → and_then (found Cause.Frame o) (λ (r : ℕ ×
        Instance). sleeper_of r.0 r.1 r.1.status) ≡ Ok y → IsThere s y
    on None q k = let z : ◌≡◌ {A = Result Sleeper Cause} (Err Cause.Frame) (Ok y) = k in absurd (cc)
    on (Some r) q k = by r (at v r q) r.1.status refl k

-- a function in which something stands has a first block
first_block : (f : Function) (block at : ℕ) (i : Instr) → fetch f block at ≡ AtInstr i → (b : Block) × (slice_get f.blocks 0
    ≡ Some b)
first_block f block at i here = on f.blocks refl
  where
    on : (bs : List Block) → f.blocks ≡ bs → (b : Block) × (slice_get f.blocks 0 ≡ Some b)
    on [] e = let z : fetch_in None at ≡ AtInstr i = ap (λ bs. fetch_in (slice_get bs block) at) (sym e) ∙ here in absurd (cc)
    on (b ∷ bs) e = (b, ap (λ bs. slice_get bs 0) e)

-- ---- the step

module _ (c : Setting) (x : Here c) (p : Prices) (i : Instr) (giving : IsGiving c.code c.roots x.s.top i None) (y z : Sleeper)
    (ours : IsThere x.s y) (theirs : IsThere (other c x) z) (both : IsSleeperBeside c.code c.flags c.roots x.beside.ledger
    x.s.world.memory y z) where
  abbrev f : Function
  f = function_at c.code y.instance.coroutine

  -- a label of its suspend's switch
  pub record IsOwnLabel (label : ℕ) : Type 0 where
    pub switch : BranchesTo label (fetch (function_at c.code y.instance.coroutine) y.suspend.block (y.suspend.at + 1))
    pub own : IsTrue (has_point (own_edges (function_at c.code y.instance.coroutine) y.suspend) (entry_point (function_at
        c.code y.instance.coroutine) label))
    pub no_phis : phis_of (slice_get (function_at c.code y.instance.coroutine).blocks (position_of (function_at c.code
        y.instance.coroutine) label)) ≡ []

  stop : HasStop c.code (function_at c.code y.instance.coroutine) y.suspend
  stop = (x.all.places y.instance.coroutine).stops y.suspend both.kept.is_call

  itself : (q : Point) → same_point q q ≡ true
  itself q = by q.block q.at
    where
      by : (a b : ℕ) → same_point (record { block = a; at = b }) (record { block = a; at = b }) ≡ true
      by a b = grind arith

  either : (a b : Bool) → b ≡ true → (a || b) ≡ true
  either true b e = refl
  either false b e = e

  first_or : (a b : Bool) → a ≡ true → (a || b) ≡ true
  first_or true b e = refl
  first_or false b e = absurd (cc)

  pub resume_own : IsOwnLabel (resume_label (function_at c.code y.instance.coroutine) y.suspend)
  resume_own = record {
    switch = subst (BranchesTo (resume_label f y.suspend)) (sym stop.stands) stop.own.0;
    own = first_or _ _ (itself (entry_point f (resume_label f y.suspend)));
    no_phis = ((x.all.steps y.instance.coroutine).no_phis y.suspend both.kept.is_call).0;
  }

  pub destroy_own : IsOwnLabel (destroy_label (function_at c.code y.instance.coroutine) y.suspend)
  destroy_own = record {
    switch = subst (BranchesTo (destroy_label f y.suspend)) (sym stop.stands) stop.own.1;
    own = either _ _ (first_or _ _ (itself (entry_point f (destroy_label f y.suspend))));
    no_phis = ((x.all.steps y.instance.coroutine).no_phis y.suspend both.kept.is_call).1;
  }

  named : (a : ℕ) → IsTrue (c.flags y.instance.coroutine a) → a < length y.values
  named a flagged =
      let made = (keeps c x y.instance.coroutine).made a flagged in
      let name : a < length f.names = subst (λ w. IsNamedResult (length f.names) (result_at w)) made.stands (result_named f
      (x.all.locals y.instance.coroutine).results 0 made.at) in
      let wide : length y.values ≡ length f.names = (subst (IsSoundStatus c.code y.instance.coroutine) ours.status
      (x.run.sound.instances y.number y.instance ours.there)).0 in
      subst (λ k. a < k) (sym wide) name

  module _ (label : ℕ) (own : IsOwnLabel label) where
    first : (b : Block) × (slice_get (function_at c.code y.instance.coroutine).blocks 0 ≡ Some b)
    first = first_block f y.suspend.block y.suspend.at both.kept.is_call.instr both.kept.is_call.stands

    abbrev is : IsResuming c.code c.flags c.roots x.s i y label
    is = record {
      giving = giving;
      there = ours.there;
      switch = own.switch;
      own = own.own;
      no_phis = own.no_phis;
      block = first.0;
      first = first.1;
      named = named;
    }

    abbrev slots : List Anew
    slots = anew_in (c.flags y.instance.coroutine) 0 first.0.instrs

    pub followed : (goes : first_step c x.s ≡ continue_keeping (first_given c) c.keep x.s y.number y.instance y.suspend
        y.values label) → renewed_step (second_given c) (other c x) ≡ continue_renewed (second_given c) (other c x) z.number
        z.instance z.suspend z.values label → resumed_in (first_given c) x.s ≡ Some y.instance.coroutine → resumed_in
        (second_given c).given (other c x) ≡ Some y.instance.coroutine → IsFollowed (first_given c) (second_given c) p x.s
        (other c x)
    followed goes does priced paid = record {
      steps = suc (length slots);
      some = omega arith;
      few = cheap _ _ _ _ _ price_is cost_is kept_is;
      between = λ j pos lt. on_the_way j pos lt;
      related = Goes (subst (λ u. IsBeside c.code c.flags c.roots u (iterate (renewed_step (second_given c)) (length slots)
          (renewed_step (second_given c) (other c x)))) (sym goes) (subst (λ u. IsBeside c.code c.flags c.roots
          (continue_keeping (first_given c) c.keep x.s y.number y.instance y.suspend y.values label) (iterate (renewed_step
          (second_given c)) (length slots) u)) (sym does) (resumes_beside (second_given c) x.all.slots x.s (other c x)
          x.beside i y z label is theirs.there both (first_given c) refl running)));
    }
      where
        running : x.t.outcome ≡ Outcome.Running
        running = x.beside.outcome ∙ x.runs

        cheap : (a b k r w : ℕ) → a ≡ r → b ≡ w → k ≡ r + w → a + b ≤ k
        cheap a b k r w e g h = omega arith

        moded : (m : Mode) → (m ≡ Mode.Plain) ⊎ ((m ≡ Mode.Ramp) ⊎ (m ≡ Mode.Resumed)) → price_in p (other c x) (Some
            y.instance.coroutine) m ≡ p.resume y.instance.coroutine
        moded m (inl e) = ap (price_in p (other c x) (Some y.instance.coroutine)) e
        moded m (inr (inl e)) = ap (price_in p (other c x) (Some y.instance.coroutine)) e
        moded m (inr (inr e)) = ap (price_in p (other c x) (Some y.instance.coroutine)) e

        price_is : renewed_price p (second_given c).given (other c x) ≡ p.resume y.instance.coroutine
        price_is = ap (λ o. price_in p (other c x) o x.s.top.mode) paid ∙ moded x.s.top.mode x.beside.top.modes

        cost_is : cost_from (renewed_step (second_given c)) (renewed_price p (second_given c).given) (length slots)
            (renewed_step (second_given c) (other c x)) ≡ price_of_all (p.slot y.instance.coroutine) slots
        cost_is = ap (cost_from (renewed_step (second_given c)) (renewed_price p (second_given c).given) (length slots)) does
            ∙ resumes_cost (second_given c) x.all.slots x.s (other c x) x.beside i y z label is theirs.there both p running

        kept_is : kept_price p c.flags (first_given c) x.s ≡ p.resume y.instance.coroutine + price_of_all (p.slot
            y.instance.coroutine) slots
        kept_is = ap (λ o. price_of p x.s o + anew_price p c.flags (first_given c) o) priced ∙ ap (λ n. p.resume
            y.instance.coroutine + n) (ap (slots_in (p.slot y.instance.coroutine) (c.flags y.instance.coroutine)) first.1
            ∙ prices_add (p.slot y.instance.coroutine) (c.flags y.instance.coroutine) 0 first.0.instrs)

        on_the_way : (j : ℕ) → 0 < j → j < suc (length slots) → IsOnItsWay (first_step c x.s) (iterate (renewed_step
            (second_given c)) j (other c x))
        on_the_way zero pos lt = absurd (none pos)
          where
            none : 0 < 0 → ⊥
            none lt = omega arith
        on_the_way (suc j) pos lt = subst (λ u. IsOnItsWay u (iterate (renewed_step (second_given c)) j (renewed_step
            (second_given c) (other c x)))) (sym goes) (subst (λ u. IsOnItsWay (continue_keeping (first_given c) c.keep x.s
            y.number y.instance y.suspend y.values label) (iterate (renewed_step (second_given c)) j u)) (sym does) (on_way
            (second_given c) x.all.slots x.s (other c x) x.beside i y z label is theirs.there both (first_given c) refl
            running j (less j lt)))
          where
            less : (j : ℕ) → suc j < suc (length slots) → j < length slots
            less j lt = omega arith

-- ---- the instructions

module _ (c : Setting) (x : Here c) (p : Prices) (result : Option ℕ) (must_tail : Bool) (ty : Option Ty) (args : List Arg)
  where
    abbrev instr : Intrinsic → Instr
    instr j = Instr.Call result must_tail ty (Callee.Intrinsic j) args

    abbrev v : Value
    v = nth (arg_values c.code x.s.top.values args) 0

    abbrev w : Value
    w = nth (arg_values c.code x.values args) 0

    -- both find an instance
    record IsFound (y : Sleeper) : Type 0 where
      other_one : Sleeper
      ours : IsThere x.s y
      theirs : IsThere (other c x) other_one
      finds : sleeper_at (other c x) w ≡ Ok other_one
      both : IsSleeperBeside c.code c.flags c.roots x.beside.ledger x.s.world.memory y other_one
      func : function_at c.code other_one.instance.coroutine ≡ function_at c.code y.instance.coroutine

    found_both : (y : Sleeper) → sleeper_at x.s v ≡ Ok y → IsFound y
    found_both y e = ⊎_elim standing (λ h. absurd (in_slot h)) (arg_there c x args 0)
      where
        standing : IsValue x.beside.ledger.homes v w → IsFound y
        standing stands =
            let r = sleeper_beside c.code c.flags c.roots x.s (other c x) x.beside v w stands y e in
            record {
              other_one = r.0;
              ours = sleeper_there x.s v y e;
              theirs = sleeper_there (other c x) w r.0 r.1;
              finds = r.1;
              both = r.2;
              func = ap (λ (u : Instance). function_at c.code u.coroutine) r.2.instance.is;
            }

        in_slot : IsInSlot c x v → ⊥
        in_slot h =
            let z : ◌≡◌ {A = Result Sleeper Cause} (Err Cause.Frame) (Ok y) = ap (λ o. and_then (found Cause.Frame o) (λ (r : ℕ ×
            Instance). sleeper_of r.0 r.1 r.1.status)) (sym (no_instance c x v h)) ∙ e in
            absurd (cc)

    running : x.t.outcome ≡ Outcome.Running
    running = x.beside.outcome ∙ x.runs

    giving : (j : Intrinsic) → fetch (function_at c.code x.s.top.func) x.s.top.block x.s.top.at ≡ AtInstr (instr j)
        → is_call_of Intrinsic.CoroEnd (instr j) ≡ false → is_call_of Intrinsic.LifetimeStart (instr j) ≡ false
        → is_call_of Intrinsic.LifetimeEnd (instr j) ≡ false → IsGiving c.code c.roots x.s.top (instr j) (given_at (AtInstr
        (instr j)))
    giving j here none start end = giving_call c.code c.flags c.roots x.s.top (keeps c x x.s.top.func) result must_tail ty
        (Callee.Intrinsic j) args here none start end

    abbrev Goes_on : Intrinsic → Type 0
    Goes_on j = fetch (function_at c.code x.s.top.func) x.s.top.block x.s.top.at ≡ AtInstr (instr j) → (after : State)
        → first_act c x (first_action c x (AtInstr (instr j))) ≡ Ok after → first_step c x.s ≡ after → IsFollowed (first_given
        c) (second_given c) p x.s (other c x)

    -- what the second run does at the call
    second_goes : (j : Intrinsic) → fetch (function_at c.code x.s.top.func) x.s.top.block x.s.top.at ≡ AtInstr (instr j)
        → (u : State) → renewed_next (second_given c) (other c x) (AtInstr (instr j)) ≡ Ok u → renewed_step (second_given c)
        (other c x) ≡ u
    second_goes j here u e = ap (renewed_advance (second_given c) (other c x)) running ∙ ap (λ k. or_undefined (second_given
        c).given (other c x) (renewed_next (second_given c) (other c x) k)) here ∙ ap (or_undefined (second_given c).given (other
        c x)) e

    pub destroy_case : Goes_on Intrinsic.CoroDestroy
    destroy_case here after acts step = on (sleeper_at x.s v) refl acts
      where
        by : (y : Sleeper) → sleeper_at x.s v ≡ Ok y → IsFound y → continue_keeping (first_given c) c.keep x.s y.number
            y.instance y.suspend y.values (destroy_label (function_at c.code y.instance.coroutine) y.suspend) ≡ after
            → IsFollowed (first_given c) (second_given c) p x.s (other c x)
        by y e h is =
            let z = h.other_one in
            let label = destroy_label (function_at c.code y.instance.coroutine) y.suspend in
            followed c x p (instr Intrinsic.CoroDestroy) (giving Intrinsic.CoroDestroy here refl refl refl) y z h.ours h.theirs
            h.both label (destroy_own c x p (instr Intrinsic.CoroDestroy) (giving Intrinsic.CoroDestroy here refl refl refl) y z
            h.ours h.theirs h.both) (step ∙ sym is) (second_goes Intrinsic.CoroDestroy here (continue_renewed (second_given c)
            (other c x) z.number z.instance z.suspend z.values label) (ap (λ r. and_then r (λ (u : Sleeper). Ok
            (continue_renewed (second_given c) (other c x) u.number u.instance u.suspend u.values (destroy_label (function_at
            c.code u.instance.coroutine) u.suspend)))) h.finds ∙ (λ k. Ok (continue_renewed (second_given c) (other c x)
            z.number z.instance z.suspend z.values (destroy_label (h.func k) (h.both.suspend k)))))) (ap (λ k. resumed_by
            (first_given c) x.s (action_of (context_of (first_given c) x.s) (work_of x.s) k)) here ∙ ap coroutine_of e) (ap (λ k.
            resumed_by (second_given c).given (other c x) (action_of (context_of (second_given c).given (other c x)) (work_of
            (other c x)) k)) here ∙ ap coroutine_of h.finds ∙ ap (λ (u : Instance). Some u.coroutine) h.both.instance.is)

        on : (r : Result Sleeper Cause) → sleeper_at x.s v ≡ r → and_then r (λ (y : Sleeper). Ok (continue_keeping (first_given
            c) c.keep x.s y.number y.instance y.suspend y.values (destroy_label (function_at c.code y.instance.coroutine)
            y.suspend))) ≡ Ok after → IsFollowed (first_given c) (second_given c) p x.s (other c x)
        on (Err cause) e k = let z : ◌≡◌ {A = Result State Cause} (Err cause) (Ok after) = k in absurd (cc)
        on (Ok y) e k = by y e (found_both y e) (same_ok k)

    pub resume_case : Goes_on Intrinsic.CoroResume
    resume_case here after acts step = on (sleeper_at x.s v) refl acts
      where
        by : (y : Sleeper) → sleeper_at x.s v ≡ Ok y → IsFound y → is_final (function_at c.code y.instance.coroutine) y.suspend ≡
            false → continue_keeping (first_given c) c.keep x.s y.number y.instance y.suspend y.values (resume_label
            (function_at c.code y.instance.coroutine) y.suspend) ≡ after → IsFollowed (first_given c) (second_given c) p x.s
            (other c x)
        by y e h last is =
            let z = h.other_one in
            let label = resume_label (function_at c.code y.instance.coroutine) y.suspend in
            followed c x p (instr Intrinsic.CoroResume) (giving Intrinsic.CoroResume here refl refl refl) y z h.ours h.theirs
            h.both label (resume_own c x p (instr Intrinsic.CoroResume) (giving Intrinsic.CoroResume here refl refl refl) y z
            h.ours h.theirs h.both) (step ∙ sym is) (second_goes Intrinsic.CoroResume here (continue_renewed (second_given c)
            (other c x) z.number z.instance z.suspend z.values label) (ap (λ r. and_then r (λ (u : Sleeper). ok_if (not (is_final
            (function_at c.code u.instance.coroutine) u.suspend)) Cause.State (continue_renewed (second_given c) (other c x)
            u.number u.instance u.suspend u.values (resume_label (function_at c.code u.instance.coroutine) u.suspend))))
            h.finds ∙ (λ k. ok_if (not (is_final (h.func k) (h.both.suspend k))) Cause.State (continue_renewed (second_given c)
            (other c x) z.number z.instance z.suspend z.values (resume_label (h.func k) (h.both.suspend k)))) ∙ ap (λ b. ok_if
            (not b) Cause.State (continue_renewed (second_given c) (other c x) z.number z.instance z.suspend z.values label))
            last)) (ap (λ k. resumed_by (first_given c) x.s (action_of (context_of (first_given c) x.s) (work_of x.s) k)) here
            ∙ ap coroutine_of e) (ap (λ k. resumed_by (second_given c).given (other c x) (action_of (context_of (second_given
            c).given (other c x)) (work_of (other c x)) k)) here ∙ ap coroutine_of h.finds ∙ ap (λ (u : Instance). Some
            u.coroutine) h.both.instance.is)

        ends : (y : Sleeper) → sleeper_at x.s v ≡ Ok y → (b : Bool) → is_final (function_at c.code y.instance.coroutine)
            y.suspend ≡ b → ok_if (not b) Cause.State (continue_keeping (first_given c) c.keep x.s y.number y.instance y.suspend
            y.values (resume_label (function_at c.code y.instance.coroutine) y.suspend)) ≡ Ok after → IsFollowed (first_given c)
            (second_given c) p x.s (other c x)
        ends y e true last k = let z : ◌≡◌ {A = Result State Cause} (Err Cause.State) (Ok after) = k in absurd (cc)
        ends y e false last k = by y e (found_both y e) last (same_ok k)

        on : (r : Result Sleeper Cause) → sleeper_at x.s v ≡ r → and_then r (λ (y : Sleeper). ok_if (not (is_final (function_at
            c.code y.instance.coroutine) y.suspend)) Cause.State (continue_keeping (first_given c) c.keep x.s y.number y.instance
            y.suspend y.values (resume_label (function_at c.code y.instance.coroutine) y.suspend))) ≡ Ok after → IsFollowed
            (first_given c) (second_given c) p x.s (other c x)
        on (Err cause) e k = let z : ◌≡◌ {A = Result State Cause} (Err cause) (Ok after) = k in absurd (cc)
        on (Ok y) e k = ends y e (is_final (function_at c.code y.instance.coroutine) y.suspend) refl k
