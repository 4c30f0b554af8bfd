-- Names that calls of some intrinsics alone give have what these gave, in each state of a framed run.
use Rattle.std.proofs.Common.{◌≡◌, ◌⊎◌, inl, inr, ⊎_elim, ◌∙◌, ◌+◌, ℕ, zero, suc, true, false, List, [], ◌∷◌, length, Err, Ok, None, Option, Result, Some, ap, refl, sym, subst}
use Rattle.std.proofs.lemmas.Bool.{cases_eq}
use Rattle.std.specs.Prelude.{negsuc, replicate, slice_get, unwrap_or}
use Rattle.pass_elide_proof.proofs.Called.{entry_poison}
use Rattle.pass_elide_proof.proofs.CallersValues.{SetsOnly, result_elsewhere, sets_only}
use Rattle.pass_elide_proof.proofs.Facts.{not_both}
use Rattle.pass_elide_proof.proofs.GoesOn.{instr_there}
use Rattle.pass_elide_proof.proofs.PhiValues.{phis_elsewhere}
use Rattle.pass_elide_proof.proofs.PlacingKnown.{states_known}
use Rattle.pass_elide_proof.specs.PlacingStates.{BeginsInCoroutines, ComeFromCalls, IsBehindCall, IsKnownState, is_entering}
use Rattle.pass_elide_proof.specs.StepCases.{ActsBy, LeadsTo, ended}
use Rattle.pass_elide_runs.proofs.Acts.{IsInstr, instr_of}
use Rattle.pass_elide_runs.proofs.CalledFrom.{coro_result}
use Rattle.pass_elide_runs.proofs.Runs.{runs_keep_by}
use Rattle.pass_elide_runs.proofs.Stacks.{Comes, changed_stack, comes, ended_stack, gone_stack, woken_at}
use Rattle.pass_elide_runs.specs.Names.{HasGiven, HaveGiven, IsCallBy, IsGivenBy}
use Rattle.pass_elide_proof.proofs.pass_proofs.run_laws.transfer.Sets.{set_elsewhere}
use Rattle.pass_elide_proof.specs.pass_proofs.ir_base.declared.cause.Cause.{Cause}
use Rattle.pass_elide_proof.specs.pass_proofs.ir_base.declared.outcome.Outcome.{Outcome}
use Rattle.pass_elide_proof.specs.pass_proofs.ir_base.declared.outcome.Word.{Word}
use Rattle.pass_elide_proof.specs.pass_proofs.ir_model.Names.{function_at, position_of}
use Rattle.pass_elide_proof.specs.pass_proofs.ir_model.declared.instr.Instr.{Instr}
use Rattle.pass_elide_proof.specs.pass_proofs.ir_model.declared.module.Function.{Function}
use Rattle.pass_elide_proof.specs.pass_proofs.ir_model.declared.module.Module.{Module}
use Rattle.pass_elide_proof.specs.pass_proofs.ir_model.declared.operand.Arg.{Arg}
use Rattle.pass_elide_proof.specs.pass_proofs.ir_model.declared.operand.Callee.{Callee}
use Rattle.pass_elide_proof.specs.pass_proofs.ir_model.declared.operand.Intrinsic.{Intrinsic}
use Rattle.pass_elide_proof.specs.pass_proofs.ir_parts.Contents.{result_of}
use Rattle.pass_elide_proof.specs.pass_proofs.ir_paths.declared.point.Point.{Point}
use Rattle.pass_elide_proof.specs.pass_proofs.run_agreement.Machines.{IsFine}
use Rattle.pass_elide_proof.specs.pass_proofs.run_framed.Framed.{FramedGiven, alloca_from, begin_name, enter_after, framed_act, framed_advance, framed_context, framed_coro, framed_next, framed_slot, framed_state_at, framed_step, last_value, reentry_values}
use Rattle.pass_elide_proof.specs.pass_proofs.run_laws.changed.Changed.{Each}
use Rattle.pass_elide_proof.specs.pass_proofs.run_memory.declared.pointer.Value.{Value}
use Rattle.pass_elide_proof.specs.pass_proofs.run_source.Source.{called, mode_of}
use Rattle.pass_elide_proof.specs.pass_proofs.run_source.State.{frame_address_of, function_of, gives, instance_at, or_undefined, own_instance, settled, with_slots, work_of}
use Rattle.pass_elide_proof.specs.pass_proofs.run_source.declared.state.Activation.{Activation}
use Rattle.pass_elide_proof.specs.pass_proofs.run_source.declared.state.Instance.{Instance}
use Rattle.pass_elide_proof.specs.pass_proofs.run_source.declared.state.Mode.{Mode}
use Rattle.pass_elide_proof.specs.pass_proofs.run_source.declared.state.State.{State}
use Rattle.pass_elide_proof.specs.pass_proofs.run_step.Step.{Action, AtInstr, Context, Coro, Done, NewSlot, Work, action_of, fetch, intrinsic_call, label_of, phis_of, values_in}
use Rattle.pass_elide_proof.specs.pass_proofs.run_step.Values.{Env, arg_values, integer, truth_value, value_in, with_result, with_value}

-- ---- values

-- a name that is set has the value, or it isn't one of the activation
set_or : (env : Env) (name : ℕ) (v : Value)
    → (value_in (with_value env name v) name ≡ Value.Poison) ⊎ (value_in (with_value env name v) name ≡ v)
set_or [] name v = inl refl
set_or (x ∷ env) zero v = inr refl
set_or (x ∷ env) (suc name) v = set_or env name v

blank : (n v : ℕ) → value_in (replicate n None) v ≡ Value.Poison
blank zero v = refl
blank (suc n) zero = refl
blank (suc n) (suc v) = blank n v

reentry_poison : (f : Function) (frame : Value) (v : ℕ) → (begin_name f ≡ Some v → ⊥)
    → value_in (reentry_values f frame) v ≡ Value.Poison
reentry_poison f frame v none =
    result_elsewhere (replicate (length f.names) None) (begin_name f) frame v none ∙ blank (length f.names) v

ok_state : (x y : State) → ◌≡◌ {A = Result State Cause} (Ok x) (Ok y) → x ≡ y
ok_state x y h = cc

module _ (g : FramedGiven) (fits : ℕ → Mode → Value → Type 0) (calls : Intrinsic → Type 0)
    (acts_by : (c : Context) (w : Work) (j : Intrinsic) → calls j → (result : Option ℕ) (args : List Arg)
    (vs : List Value) → intrinsic_call c w j result args vs ≡ Coro j args result)
    (gives_by : (s : State) (j : Intrinsic) → calls j → (args : List Arg) (vs : List Value) (result : Option ℕ)
    → (v : Value) × (framed_coro g s j args vs result ≡ Ok (gives s result v)) × fits s.top.func s.top.mode v)
    (apart : (calls Intrinsic.CoroBegin → ⊥) × ((calls Intrinsic.CoroFree → ⊥) × ((calls Intrinsic.CoroSuspend → ⊥)
    × (calls Intrinsic.CoroEnd → ⊥))))
    (later : (func from label : ℕ) (v : Value) → fits func (Mode.Entering from label) v → fits func Mode.Resumed v)
  where
    abbrev m : Module
    m = g.given.code

    abbrev Has : Activation → Type 0
    Has a = HasGiven fits calls m a

    abbrev On : State → Type 0
    On s = HaveGiven fits calls m s

    abbrev waiting : State → Activation
    waiting s = record s.top { at = s.top.at + 1 }

    -- ---- one activation

    -- where the names of such calls keep their values
    kept : (a : Activation) (values : Env)
        → ((v : ℕ) → IsGivenBy calls (function_at m a.func) v → value_in values v ≡ value_in a.values v) → Has a
        → Has (record a { values = values })
    kept a values same h v is =
        let e = sym (same v is) in
        subst (λ (x : Value). (x ≡ Value.Poison) ⊎ fits a.func a.mode x) e (h v is)

    -- what stands there is no such call
    call_acts : (s : State) (i : Instr) → IsCallBy calls i
        → (k : Intrinsic) × (args : List Arg) × (result : Option ℕ) × calls k
        × (action_of (framed_context g s) (work_of s) (AtInstr i) ≡ Coro k args result)
    call_acts s i k = (
      k.intrinsic,
      k.args,
      k.result,
      k.called,
      ap (λ (z : Instr). action_of (framed_context g s) (work_of s) (AtInstr z)) k.is
          ∙ acts_by (framed_context g s) (work_of s) k.intrinsic k.called k.result k.args
          (arg_values m s.top.values k.args),
    )

    given_at : (s : State) (i : Instr) → fetch (function_of g.given s) s.top.block s.top.at ≡ AtInstr i → (v : ℕ)
        → IsGivenBy calls (function_at m s.top.func) v → result_of i ≡ Some v → IsCallBy calls i
    given_at s i there v is gives =
        is.instrs s.top.block s.top.at i (instr_there (function_of g.given s) s.top.block s.top.at i there) gives

    -- an action that no such call does
    abbrev IsOther : Action → Type 0
    IsOther a = (k : Intrinsic) (args : List Arg) (result : Option ℕ) → calls k → a ≡ Coro k args result → ⊥

    on_other : (s : State) (a : Action) (acts : ActsBy g s a) → IsOther a → (i : Instr) → acts.here ≡ AtInstr i
        → (values : Env) → ((v : ℕ) → (result_of i ≡ Some v → ⊥) → value_in values v ≡ value_in s.top.values v) →
        (v : ℕ)
        → IsGivenBy calls (function_at m s.top.func) v → value_in values v ≡ value_in s.top.values v
    on_other s a acts other i is values keeps v given =
        keeps v (λ gives.
        let k = call_acts s i (given_at s i (acts.there ∙ is) v given gives) in
        other k.0 k.1 k.2 k.3
        (sym acts.acts ∙ (ap (action_of (framed_context g s) (work_of s)) is ∙ k.4)))

    -- a call of an intrinsic of another kind sets no such name
    coro_other : (s : State) (j : Intrinsic) (args : List Arg) (result : Option ℕ)
        (acts : ActsBy g s (Coro j args result)) → (calls j → ⊥) → (v : Value) → Has s.top
        → Has (record s.top { values = with_result s.top.values result v })
    coro_other s j args result acts never v h =
        kept s.top (with_result s.top.values result v) (by (instr_of g s (Coro j args result) acts refl)) h
      where
        same : (k : Intrinsic) (xs : List Arg) (r : Option ℕ) → Coro j args result ≡ Coro k xs r → j ≡ k
        same k xs r e = cc

        by : IsInstr acts.here → (n : ℕ) → IsGivenBy calls (function_at m s.top.func) n
            → value_in (with_result s.top.values result v) n ≡ value_in s.top.values n
        by i n given =
            result_elsewhere s.top.values result v n (λ e.
            let k = call_acts s i.instr (given_at s i.instr (acts.there ∙ i.is) n given
            (coro_result g s j args result acts i.instr i.is ∙ e)) in
            never (subst calls
            (sym (same k.0 k.1 k.2
            (sym acts.acts ∙ (ap (action_of (framed_context g s) (work_of s)) i.is ∙ k.4)))) k.3))

    -- a call of one of them gives what fits
    fine_is : (r : Result State Cause) (s u : State) → or_undefined g.given s r ≡ u → IsFine u.outcome → r ≡ Ok u
    fine_is (Ok v) s u is fine = ap Ok is
    fine_is (Err cause) s u is fine = absurd (subst (λ (z : State). IsFine z.outcome) (sym is) fine)

    coro_given : (s u : State) → s.outcome ≡ Outcome.Running → framed_step g s ≡ u → IsFine u.outcome → (j : Intrinsic)
        (args : List Arg) (result : Option ℕ) → ActsBy g s (Coro j args result) → calls j → Has s.top
        → Has (record s.top { values = u.top.values })
    coro_given s u runs step fine j args result acts called h n given =
        subst (λ (env : Env). (value_in env n ≡ Value.Poison) ⊎ fits s.top.func s.top.mode (value_in env n))
        (ap (λ (z : State). z.top.values) same) (by result)
      where
        vs : List Value
        vs = arg_values m s.top.values args

        v : (v : Value) × (framed_coro g s j args vs result ≡ Ok (gives s result v)) × fits s.top.func s.top.mode v
        v = gives_by s j called args vs result

        does : framed_step g s ≡ or_undefined g.given s (framed_coro g s j args vs result)
        does =
            ap (framed_advance g s) runs
            ∙ ap (or_undefined g.given s)
            (ap (framed_next g s) acts.there
            ∙ (ap (λ (o : Option (Result State Cause)). unwrap_or o (framed_act g s
            (action_of (framed_context g s) (work_of s) acts.here))) acts.none
            ∙ ap (framed_act g s) acts.acts))

        same : gives s result v.0 ≡ u
        same =
            ok_state (gives s result v.0) u
            (sym v.1 ∙ fine_is (framed_coro g s j args vs result) s u (sym does ∙ step) fine)

        Fit : Value → Type 0
        Fit x = (x ≡ Value.Poison) ⊎ fits s.top.func s.top.mode x

        here : (r : ℕ) → n ≡ r → Fit (value_in (with_value s.top.values r v.0) n)
        here r is =
            subst (λ (k : ℕ). Fit (value_in (with_value s.top.values r v.0) k)) (sym is)
            (⊎_elim (λ none. inl none) (λ set. inr (subst (fits s.top.func s.top.mode) (sym set) v.2))
            (set_or s.top.values r v.0))

        by : (o : Option ℕ) → Fit (value_in (with_result s.top.values o v.0) n)
        by None = h n given
        by (Some r) =
            ⊎_elim (λ is. here r is)
            (λ other. subst Fit (sym (set_elsewhere s.top.values r n v.0 (λ e. other (sym e)))) (h n given))
            (cases_eq n r)

    -- ---- activations

    called_has : (func : ℕ) (args : List Value) (result : Option ℕ) (mode : Mode) → Has
        (called m func args result mode)
    called_has func args result mode n given = inl (entry_poison (function_at m func) args n given.params)

    phis_keep : (a : Activation) (block from : ℕ) (mode : Mode)
        → ((v : Value) → fits a.func a.mode v → fits a.func mode v) → Has a
        → Has (record a {
          block = block;
          at = 0;
          values = values_in m (slice_get (function_at m a.func).blocks block) from a.values;
          mode = mode;
        })
    phis_keep a block from mode on h n given =
        subst (λ (x : Value). (x ≡ Value.Poison) ⊎ fits a.func mode x)
        (sym (phis_elsewhere m a.values from (phis_of (slice_get (function_at m a.func).blocks block)) a.values n
        (given.phis block))) (⊎_elim (λ none. inl none) (λ fit. inr (on _ fit)) (h n given))

    woken_has : (s : State) (i : ℕ) (x : Instance) (p : Point) (label : ℕ) (o : Option Point)
        → Has (enter_after g (woken_at g s i x p) p.block label o).top
    woken_has s i x p label (Some q) n given =
        inl (reentry_poison (function_at m x.coroutine) (frame_address_of x) n given.begins)
    woken_has s i x p label None n given =
        inl
        (phis_elsewhere m env (label_of (slice_get f.blocks p.block)) (phis_of (slice_get f.blocks
        (position_of f label)))
        env n (given.phis (position_of f label))
        ∙ reentry_poison f (frame_address_of x) n given.begins)
      where
        f : Function
        f = function_at m x.coroutine

        env : Env
        env = reentry_values (function_at m x.coroutine) (frame_address_of x)

    -- ---- returns

    enters_none : (i : Instr) → is_entering i ≡ true → IsCallBy calls i → ⊥
    enters_none i enters k =
        not_both (is_entering (Instr.Call k.result k.must_tail k.ty (Callee.Intrinsic k.intrinsic) k.args))
        (ap is_entering (sym k.is) ∙ enters) refl

    back_in : (b : Activation) (result : Option ℕ) (v : Value) → (result ≡ None) ⊎ IsBehindCall m result b → Has b
        → Has (record b { values = with_result b.values result v })
    back_in b result v (inl none) h =
        kept b (with_result b.values result v)
        (λ n given. ap (λ (o : Option ℕ). value_in (with_result b.values o v) n) none) h
    back_in b result v (inr from) h =
        kept b (with_result b.values result v)
        (λ n given.
        result_elsewhere b.values result v n (λ e.
        enters_none from.instr from.enters (given.instrs b.block from.at from.instr from.there (sym from.same ∙ e)))) h

    came : (s : State) (v : Option Value) (u : State) → Comes s v u → ComeFromCalls m (s.top ∷ s.below) → On s → On u
    came s v u (Comes.Ends k) coming h = subst On (sym k.is) (h.0, h.1)
    came s v u (Comes.Back k) coming h =
        let rest = subst (λ (bs : List Activation). Each (HasGiven fits calls m) bs) k.below h.1 in
        let from = subst (λ (bs : List Activation). ComeFromCalls m (s.top ∷ bs)) k.below coming in
        subst On (sym k.is) (back_in k.caller s.top.result (unwrap_or v Value.Poison) from.0 rest.0, rest.1)

    -- ---- steps

    pub given_stays : (s u : State) → s.outcome ≡ Outcome.Running → framed_step g s ≡ u → IsFine u.outcome
        → IsKnownState m s → On s → LeadsTo g s u → On u
    given_stays s _ runs step fine q h (LeadsTo.Works w acts) =
        let i = instr_of g s (Done w) acts refl in (
          kept s.top w.values
              (on_other s (Done w) acts (λ k xs r called e. absurd (cc)) i.instr i.is w.values
              (subst (SetsOnly (framed_context g s) (work_of s) (result_of i.instr))
              (ap (action_of (framed_context g s) (work_of s)) (sym i.is) ∙ acts.acts)
              (sets_only (framed_context g s) (work_of s) i.instr))) h.0,
          h.1,
        )
    given_stays s _ runs step fine q h (LeadsTo.MakesSlot w slot acts) = by s.top.mode refl
      where
        i : IsInstr acts.here
        i = instr_of g s (NewSlot w slot) acts refl

        after_slot : Has (record s.top { values = w.values })
        after_slot =
            kept s.top w.values
            (on_other s (NewSlot w slot) acts (λ k xs r called e. absurd (cc)) i.instr i.is w.values
            (subst (SetsOnly (framed_context g s) (work_of s) (result_of i.instr))
            (ap (action_of (framed_context g s) (work_of s)) (sym i.is) ∙ acts.acts)
            (sets_only (framed_context g s) (work_of s) i.instr))) h.0

        by : (mode : Mode) → s.top.mode ≡ mode → On (framed_slot g (settled s w) slot mode)
        by Mode.Plain is = (after_slot, h.1)
        by Mode.Ramp is = (after_slot, h.1)
        by Mode.Resumed is = (after_slot, h.1)
        by (Mode.GivenRamp frame) is = (after_slot, h.1)
        by (Mode.Entering from label) is = after (alloca_from (function_of g.given s) (s.top.at + 1))
          where
            on : (v : Value) → fits s.top.func s.top.mode v → fits s.top.func Mode.Resumed v
            on v fit = later s.top.func from label v (subst (λ (k : Mode). fits s.top.func k v) is fit)

            after : (o : Option Point) → On (enter_after g (with_slots (settled s w)
                (slot ∷ s.top.slots)) from label o)
            after (Some p) = (
              (λ n given.
                  subst (λ (k : Mode). (value_in w.values n ≡ Value.Poison) ⊎ fits s.top.func k
                  (value_in w.values n)) is
                  (after_slot n given)),
              h.1,
            )
            after None = (
              phis_keep (record s.top { values = w.values }) (position_of (function_of g.given s) label)
                  (label_of (slice_get (function_of g.given s).blocks from)) Mode.Resumed on after_slot,
              h.1,
            )
    given_stays s _ runs step fine q h (LeadsTo.Enters func args result must_tail acts) =
        (called_has func args result (mode_of (function_at m func)), (h.0, h.1))
    given_stays s _ runs step fine q h (LeadsTo.EntersGiven func result args ramp) =
        let vs = arg_values m s.top.values args in
        (called_has func vs result (Mode.GivenRamp (last_value vs)), (h.0, h.1))
    given_stays s _ runs step fine q h (LeadsTo.Answers j args result v acts) = (answers, h.1)
      where
        answers : Has (gives s result v).top
        answers n given = by (instr_of g s (Coro j args result) acts refl) (cases_some result n)
          where
            cases_some : (o : Option ℕ) (n : ℕ) → (o ≡ Some n) ⊎ (o ≡ Some n → ⊥)
            cases_some None n = inr (λ e. absurd (cc))
            cases_some (Some r) n = ⊎_elim (λ e. inl (ap Some e)) (λ ne. inr (λ e. ne (one r n e))) (cases_eq r n)
              where
                one : (a b : ℕ) → Some a ≡ Some b → a ≡ b
                one a b e = cc

            same : (k : Intrinsic) (xs : List Arg) (r : Option ℕ) → Coro j args result ≡ Coro k xs r → j ≡ k
            same k xs r e = cc

            by : IsInstr acts.here → (result ≡ Some n) ⊎ (result ≡ Some n → ⊥)
                → (value_in (with_result s.top.values result v) n ≡ Value.Poison)
                ⊎ fits s.top.func s.top.mode (value_in (with_result s.top.values result v) n)
            by i (inr other) =
                subst (λ (x : Value). (x ≡ Value.Poison) ⊎ fits s.top.func s.top.mode x)
                (sym (result_elsewhere s.top.values result v n other)) (h.0 n given)
            by i (inl is) =
                let k = call_acts s i.instr (given_at s i.instr (acts.there ∙ i.is) n given
                (coro_result g s j args result acts i.instr i.is ∙ is)) in
                let j_is = same k.0 k.1 k.2
                (sym acts.acts ∙ (ap (action_of (framed_context g s) (work_of s)) i.is ∙ k.4)) in
                coro_given s (gives s result v) runs step fine j args result acts (subst calls
                (sym j_is) k.3) h.0 n given
    given_stays s _ runs step fine q h (LeadsTo.Passes j args result acts) = (h.0, h.1)
    given_stays s _ runs step fine q h (LeadsTo.Begins args result mem memory block start acts alone taken) =
        (coro_other s Intrinsic.CoroBegin args result acts apart.0 mem h.0, h.1)
    given_stays s _ runs step fine q h (LeadsTo.Releases args result v acts) =
        let k = changed_stack s (λ x. record x { released = true }) (own_instance s) in
        subst (λ (p : Activation × List Activation). Each (HasGiven fits calls m)
        (record p.0 { at = p.0.at + 1; values = with_result p.0.values result v } ∷ p.1))
        (λ j. (sym k.top j, sym k.below j))
        (coro_other s Intrinsic.CoroFree args result acts apart.1.0 v h.0, h.1)
    given_stays s _ runs step fine q h (LeadsTo.Saves args result n x save suspend acts own unfreed) = (h.0, h.1)
    given_stays s _ runs step fine q h (LeadsTo.Suspends args result n x save suspend acts own unfreed) =
        (coro_other s Intrinsic.CoroSuspend args result acts apart.1.1.0 (integer 8 (negsuc 0)) h.0, h.1)
    given_stays s _ runs step fine q h (LeadsTo.Wakes j args result y label acts sleeps) =
        after (alloca_from (function_at m y.instance.coroutine) 0)
      where
        after : (o : Option Point)
            → On (enter_after g (woken_at g s y.number y.instance y.suspend) y.suspend.block label o)
        after None = (woken_has s y.number y.instance y.suspend label None, (h.0, h.1))
        after (Some p) = (woken_has s y.number y.instance y.suspend label (Some p), (h.0, h.1))
    given_stays s _ runs step fine q h (LeadsTo.EndsRamp args result acts ramp) =
        let k = ended_stack s in
        subst (λ (p : Activation × List Activation). Each (HasGiven fits calls m)
        (record p.0 { at = p.0.at + 1; values = with_result p.0.values result (truth_value false) } ∷ p.1))
        (λ j. (sym k.top j, sym k.below j))
        (coro_other s Intrinsic.CoroEnd args result acts apart.1.1.1 (truth_value false) h.0, h.1)
    given_stays s _ runs step fine q h (LeadsTo.EndsResumed args result u acts mode back) =
        let k = ended_stack s in
        came (ended s) None u (comes (ended s) None u back)
        (subst (λ (p : Activation × List Activation). ComeFromCalls m (p.0 ∷ p.1)) (λ j. (sym k.top j, sym k.below j))
        q.coming)
        (subst (λ (p : Activation × List Activation). Each (HasGiven fits calls m) (p.0 ∷ p.1))
        (λ j. (sym k.top j, sym k.below j)) h)
    given_stays s _ runs step fine q h (LeadsTo.Deallocates p memory acts dead) =
        let k = gone_stack s (instance_at s.instances p) in
        subst (λ (p : Activation × List Activation). Each (HasGiven fits calls m) (record p.0 {
          at =
              p.0.at + 1;
        } ∷ p.1))
        (λ j. (sym k.top j, sym k.below j)) (h.0, h.1)
    given_stays s _ runs step fine q h (LeadsTo.GoesTo label acts none) = (
      phis_keep s.top (position_of (function_of g.given s) label)
          (label_of (slice_get (function_of g.given s).blocks s.top.block)) s.top.mode (λ v fit. fit) h.0,
      h.1,
    )
    given_stays s _ runs step fine q h (LeadsTo.Leaves label w ws n x acts leaves own may) = (
      phis_keep s.top (position_of (function_of g.given s) label)
          (label_of (slice_get (function_of g.given s).blocks s.top.block)) s.top.mode (λ v fit. fit) h.0,
      h.1,
    )
    given_stays s _ runs step fine q h (LeadsTo.Returns v u acts back) = came s v u (comes s v u back) q.coming h

    pub given_in_runs : BeginsInCoroutines m → (entry : ℕ) (args : List Word) (n : ℕ)
        → IsFine (framed_state_at g entry args n).outcome → On (framed_state_at g entry args n)
    given_in_runs begins entry args n fine =
        runs_keep_by g On (IsKnownState m) given_stays entry args (called_has entry _ None Mode.Plain, tt)
        (λ k ok. states_known g begins entry args k) n fine
