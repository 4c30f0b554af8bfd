-- What a framed step does to a state, and to that of the module whose functions have blocks on some of their edges.
use Rattle.std.proofs.Common.{◌≡◌, ℕ, Bool, true, false, List, [], ◌∷◌, length, refl, sym, ap, ◌∙◌, subst}
use Rattle.std.specs.Prelude.{ℤ, pos, Some, None, Ok, Err, Option, Result, not, option_map, slice_get, unwrap_or, if◌then◌else◌, ◌==◌}
use Rattle.ir_laws.specs.run_memory.declared.pointer.Value.{Value}
use Rattle.ir_laws.specs.ir_base.declared.cause.Cause.{Cause}
use Rattle.ir_laws.specs.ir_base.declared.outcome.Outcome.{Outcome}
use Rattle.ir_laws.specs.ir_base.declared.outcome.Word.{Word}
use Rattle.ir_laws.specs.run_source.Source.{Sleeper, destroy, frame_address, resume, return, sleeper_at}
use Rattle.ir_laws.specs.run_source.State.{function_of, gives, own_frame, own_instance, point_of, settled, work_of}
use Rattle.ir_laws.specs.run_source.declared.state.Instance.{Instance}
use Rattle.ir_laws.specs.run_source.declared.state.Mode.{Mode}
use Rattle.ir_laws.specs.run_source.declared.state.State.{State}
use Rattle.run_states.proofs.sound_states.Fits.{Fits, calls_at, fits, result_named}
use Rattle.ir_laws.specs.facts.expanded.Tokens.{IsNamedResult}
use Rattle.ir_laws.specs.facts.sound_states.Named.{AreLocalsNamed}
use Rattle.run_states.specs.sound_states.Sound.{IsSuspendAt}
use Rattle.frame_layout.specs.declared.layout.Layout.{Layout}
use Rattle.run_states.proofs.branches.Branches.{IsNoBranch, instr_none}
use Rattle.run_states.proofs.branches.Performs.{asleep, below_of, own_of}
use Rattle.ir_laws.specs.facts.threads.Moved.{ArePaired}
use Rattle.run_states.specs.branches.MovedState.{IsNamedBelow, IsOwnedBy}
use Rattle.ir_laws.specs.paths.branches.Ways.{AreFetched}
use Rattle.ir_laws.specs.facts.branches.Ways.{TermsPaired}
use Rattle.run_framed.specs.Framed.{FramedGiven, allocates, continue_framed, framed_act, framed_context, framed_coro, framed_given, framed_next, given_call}
use Rattle.ir_laws.specs.ir_model.Names.{function_at}
use Rattle.ir_laws.specs.ir_model.Ty.{int}
use Rattle.ir_laws.specs.ir_model.declared.instr.Case.{Case}
use Rattle.ir_laws.specs.ir_model.declared.instr.Instr.{Instr}
use Rattle.ir_laws.specs.ir_model.declared.instr.Terminator.{Terminator}
use Rattle.ir_laws.specs.ir_model.declared.module.Function.{Function}
use Rattle.ir_laws.specs.ir_model.declared.module.Module.{Module}
use Rattle.ir_laws.specs.ir_model.declared.operand.Arg.{Arg}
use Rattle.ir_laws.specs.ir_model.declared.operand.Intrinsic.{Intrinsic}
use Rattle.ir_laws.specs.ir_paths.Windows.{destroy_label, label_at, operand_at, resume_label}
use Rattle.ir_laws.specs.run_step.Results.{and_then, ok_if}
use Rattle.ir_laws.specs.run_step.Step.{Action, AtInstr, AtTerm, Coro, Deallocate, Done, Enter, Fetched, GoTo, NewSlot, Nowhere, Return, Stuck, action_of, branch, fetch, is_word, switch, target_of, term_action}
use Rattle.ir_laws.specs.run_step.Values.{arg_value, arg_values, integer, nth, operand_value, truth_value}
use Rattle.ir_laws.specs.run_source_tables.Given.{is_final}
use Rattle.run_states.proofs.moved_states.Actions.{action_moved}
use Rattle.run_states.proofs.moved_states.Calls.{enter_moved, given_call_moved, return_moved}
use Rattle.run_states.proofs.moved_states.Ending.{deallocate_moved, end_moved, free_moved, promise_moved}
use Rattle.run_states.proofs.moved_states.Entering.{go_to_near, near_same}
use Rattle.run_states.proofs.moved_states.Frames.{begin_moved, continue_moved, slot_moved}
use Rattle.run_states.proofs.moved_states.Parts.{args_moved, function_moved, operand_moved}
use Rattle.run_states.proofs.moved_states.Sleeping.{done_moved, gives_moved, moved_sleeper, save_moved, sleeper_moved, sleeping, suspend_moved}
use Rattle.run_states.proofs.moved_states.States.{own_moved, with_number}
use Rattle.run_states.specs.moved_states.MovedState.{moved_action, moved_instance, moved_mode, moved_module, moved_result, moved_state, moved_values}
use Rattle.run_states.specs.moved_states.Moving.{Goes, KeepsKinds, Moves, Moving, moved_point}
use Rattle.run_states.specs.moved_states.Near.{HoldsIn, IsNear}
use Rattle.ir_laws.specs.run_laws.changed.Changed.{result_at}

module _ (mv : Moving) (kinds : KeepsKinds mv) (m : Module) (layouts : List Layout) (answers : List ℤ) (names : AreLocalsNamed m) (moves : (func : ℕ) → Moves mv (function_at m func)) where
  abbrev g : FramedGiven
  g = framed_given m layouts answers

  abbrev k : FramedGiven
  k = framed_given (moved_module mv m) layouts answers

  -- ---- resumes and destroys

  module _ (s : State) where
    abbrev AreAsleep : Result Sleeper Cause → Type 0
    AreAsleep r = (y : Sleeper) → r ≡ Ok y → IsSuspendAt (function_at m y.instance.coroutine) y.suspend

    abbrev now : Sleeper → Sleeper
    now y = moved_sleeper mv kinds m layouts answers y

    -- by the labels behind a suspend
    goes_on : (n : ℕ) (y : Sleeper) → IsSuspendAt (function_at m y.instance.coroutine) y.suspend → continue_framed k (moved_state mv m s) y.number (moved_instance mv m y.instance) (moved_point mv (function_at m y.instance.coroutine) y.suspend) (moved_values mv (function_at m y.instance.coroutine) y.values) (label_at n (slice_get (function_at (moved_module mv m) y.instance.coroutine).blocks (mv.spot (function_at m y.instance.coroutine) y.suspend.block))) ≡ moved_state mv m (continue_framed g s y.number y.instance y.suspend y.values (label_at n (slice_get (function_at m y.instance.coroutine).blocks y.suspend.block)))
    goes_on n y asleep =
        let stays = (moves y.instance.coroutine).behind y.suspend n asleep in
        ap (λ (h : Function). by (label_at n (slice_get h.blocks (mv.spot f y.suspend.block)))) (function_moved mv kinds m y.instance.coroutine)
        ∙ ap by stays.same
        ∙ continue_moved mv kinds m layouts answers names moves s y.number y.instance y.suspend y.values (moved_values mv f y.values) (label_at n (slice_get f.blocks y.suspend.block)) stays.found
      where
        f : Function
        f = function_at m y.instance.coroutine

        by : ℕ → State
        by label = continue_framed k (moved_state mv m s) y.number (moved_instance mv m y.instance) (moved_point mv (function_at m y.instance.coroutine) y.suspend) (moved_values mv (function_at m y.instance.coroutine) y.values) label

    resume_by : (r : Result Sleeper Cause) → AreAsleep r → and_then (sleeping mv kinds m layouts answers r) (λ (y : Sleeper). ok_if (not (is_final (function_at (moved_module mv m) y.instance.coroutine) y.suspend)) Cause.State (continue_framed k (moved_state mv m s) y.number y.instance y.suspend y.values (resume_label (function_at (moved_module mv m) y.instance.coroutine) y.suspend))) ≡ moved_result mv m (and_then r (λ (y : Sleeper). ok_if (not (is_final (function_at m y.instance.coroutine) y.suspend)) Cause.State (continue_framed g s y.number y.instance y.suspend y.values (resume_label (function_at m y.instance.coroutine) y.suspend))))
    resume_by (Err cause) d = refl
    resume_by (Ok y) d =
        ap (λ (b : Bool). ok_if (not b) Cause.State then_at) (ap (λ (h : Function). is_final h (moved_point mv f y.suspend)) (function_moved mv kinds m y.instance.coroutine) ∙ (moves y.instance.coroutine).final y.suspend)
        ∙ ap (λ (t : State). ok_if (not (is_final f y.suspend)) Cause.State t) (goes_on 0 y (d y refl))
        ∙ on (is_final f y.suspend)
      where
        f : Function
        f = function_at m y.instance.coroutine

        then_at : State
        then_at = continue_framed k (moved_state mv m s) y.number (moved_instance mv m y.instance) (moved_point mv (function_at m y.instance.coroutine) y.suspend) (moved_values mv (function_at m y.instance.coroutine) y.values) (resume_label (function_at (moved_module mv m) y.instance.coroutine) (moved_point mv (function_at m y.instance.coroutine) y.suspend))

        u : State
        u = continue_framed g s y.number y.instance y.suspend y.values (resume_label (function_at m y.instance.coroutine) y.suspend)

        on : (b : Bool) → ok_if (not b) Cause.State (moved_state mv m u) ≡ moved_result mv m (ok_if (not b) Cause.State u)
        on true = refl
        on false = refl

    resume_moved : (p : Value) → AreAsleep (sleeper_at s p) → resume k.given (continue_framed k) (moved_state mv m s) p ≡ moved_result mv m (resume g.given (continue_framed g) s p)
    resume_moved p d =
        ap (λ (r : Result Sleeper Cause). and_then r (λ (y : Sleeper). ok_if (not (is_final (function_at (moved_module mv m) y.instance.coroutine) y.suspend)) Cause.State (continue_framed k (moved_state mv m s) y.number y.instance y.suspend y.values (resume_label (function_at (moved_module mv m) y.instance.coroutine) y.suspend)))) (sleeper_moved mv kinds m layouts answers s p)
        ∙ resume_by (sleeper_at s p) d

    destroy_by : (r : Result Sleeper Cause) → AreAsleep r → and_then (sleeping mv kinds m layouts answers r) (λ (y : Sleeper). Ok (continue_framed k (moved_state mv m s) y.number y.instance y.suspend y.values (destroy_label (function_at (moved_module mv m) y.instance.coroutine) y.suspend))) ≡ moved_result mv m (and_then r (λ (y : Sleeper). Ok (continue_framed g s y.number y.instance y.suspend y.values (destroy_label (function_at m y.instance.coroutine) y.suspend))))
    destroy_by (Err cause) d = refl
    destroy_by (Ok y) d = ap Ok (goes_on 1 y (d y refl))

    destroy_moved : (p : Value) → AreAsleep (sleeper_at s p) → destroy k.given (continue_framed k) (moved_state mv m s) p ≡ moved_result mv m (destroy g.given (continue_framed g) s p)
    destroy_moved p d =
        ap (λ (r : Result Sleeper Cause). and_then r (λ (y : Sleeper). Ok (continue_framed k (moved_state mv m s) y.number y.instance y.suspend y.values (destroy_label (function_at (moved_module mv m) y.instance.coroutine) y.suspend)))) (sleeper_moved mv kinds m layouts answers s p)
        ∙ destroy_by (sleeper_at s p) d

    -- ---- frame addresses and modes

    address_moved : (o : Option (ℕ × Instance)) → frame_address (with_number mv m o) ≡ frame_address o
    address_moved None = refl
    address_moved (Some (i, x)) = refl

    frame_moved : (result : Option ℕ) → IsNamedResult (length s.top.values) result → gives (moved_state mv m s) result (frame_address (own_instance (moved_state mv m s))) ≡ moved_state mv m (gives s result (frame_address (own_instance s)))
    frame_moved result named =
        ap (gives (moved_state mv m s) result) (ap frame_address (own_moved mv m s) ∙ address_moved (own_instance s)) ∙ gives_moved mv m s result (frame_address (own_instance s)) named

    allocates_moved : (f : Function) (mode : Mode) → allocates (moved_mode mv f mode) ≡ allocates mode
    allocates_moved f Mode.Plain = refl
    allocates_moved f Mode.Ramp = refl
    allocates_moved f Mode.Resumed = refl
    allocates_moved f (Mode.GivenRamp v) = refl
    allocates_moved f (Mode.Entering from label) = refl

    alloc_moved : (result : Option ℕ) → IsNamedResult (length s.top.values) result → gives (moved_state mv m s) result (truth_value (allocates (moved_mode mv (function_at m s.top.func) s.top.mode))) ≡ moved_state mv m (gives s result (truth_value (allocates s.top.mode)))
    alloc_moved result named =
        ap (λ (b : Bool). gives (moved_state mv m s) result (truth_value b)) (allocates_moved (function_at m s.top.func) s.top.mode)
        ∙ gives_moved mv m s result (truth_value (allocates s.top.mode)) named

  -- ---- actions

  module _ (s : State) (holds : HoldsIn mv m s) (running : s.outcome ≡ Outcome.Running) where
    abbrev f : Function
    f = function_at m s.top.func

    abbrev here : Fetched
    here = fetch (function_at m s.top.func) s.top.block s.top.at

    abbrev Near : Result State Cause → Result State Cause → Type 0
    Near r q = IsNear mv m layouts answers r q

    same : (r q : Result State Cause) → q ≡ moved_result mv m r → Near r q
    same r q e = near_same mv kinds m layouts answers r q e

    named : (result : Option ℕ) → result ≡ result_at here → IsNamedResult (length s.top.values) result
    named result e =
        subst (λ (n : ℕ). IsNamedResult n result) (sym holds.sound.top.values)
        (subst (IsNamedResult (length f.names)) (sym e) (result_named f (names s.top.func).results s.top.block s.top.at))

    own : IsOwnedBy s (own_instance s)
    own = own_of m s holds.sound

    below : IsNamedBelow s.top.result s.below
    below = below_of m s holds.sound

    coro_moved : (j : Intrinsic) (args : List Arg) (vs : List Value) (result : Option ℕ) → calls_at j here ≡ true → result ≡ result_at here → framed_coro k (moved_state mv m s) j args vs result ≡ moved_result mv m (framed_coro g s j args vs result)
    coro_moved Intrinsic.CoroResume args vs result is e = resume_moved s (nth vs 0) (asleep m s holds.sound (nth vs 0))
    coro_moved Intrinsic.CoroDestroy args vs result is e = destroy_moved s (nth vs 0) (asleep m s holds.sound (nth vs 0))
    coro_moved Intrinsic.CoroBegin args vs result is e = begin_moved mv kinds m layouts answers names moves s result (named result e) (nth vs 1) s.top.mode
    coro_moved Intrinsic.CoroFrame args vs result is e = ap Ok (frame_moved s result (named result e))
    coro_moved Intrinsic.CoroSave args vs result is e = save_moved mv kinds m layouts answers s own (moves s.top.func)
    coro_moved Intrinsic.CoroSuspend args vs result is e = suspend_moved mv kinds m layouts answers s own result (named result e) (operand_at args 0)
    coro_moved Intrinsic.CoroDone args vs result is e = done_moved mv kinds m layouts answers moves s result (named result e) (nth vs 0)
    coro_moved Intrinsic.CoroEnd args vs result is e = end_moved mv m s below result (named result e)
    coro_moved Intrinsic.CoroFree args vs result is e = ap Ok (free_moved mv m s result (named result e))
    coro_moved Intrinsic.CoroPromise args vs result is e = promise_moved mv m layouts answers s result (named result e) (nth vs 0) (operand_at args 2)
    coro_moved Intrinsic.CoroSizeI32 args vs result is e = ap Ok (gives_moved mv m s result (integer 32 (pos (own_frame g.given s).size)) (named result e))
    coro_moved Intrinsic.CoroSizeI64 args vs result is e = ap Ok (gives_moved mv m s result (integer 64 (pos (own_frame g.given s).size)) (named result e))
    coro_moved Intrinsic.CoroAlignI32 args vs result is e = ap Ok (gives_moved mv m s result (integer 32 (pos (own_frame g.given s).align)) (named result e))
    coro_moved Intrinsic.CoroAlignI64 args vs result is e = ap Ok (gives_moved mv m s result (integer 64 (pos (own_frame g.given s).align)) (named result e))
    coro_moved Intrinsic.CoroAlloc args vs result is e = ap Ok (alloc_moved s result (named result e))
    coro_moved Intrinsic.CoroId args vs result is e = refl
    coro_moved Intrinsic.LifetimeStart args vs result is e = refl
    coro_moved Intrinsic.LifetimeEnd args vs result is e = refl
    coro_moved Intrinsic.MemcpyI64 args vs result is e = refl
    coro_moved Intrinsic.MemcpyI32 args vs result is e = refl

    act_moved : (a : Action) → IsNoBranch a → Fits s.top.values here a → framed_act k (moved_state mv m s) (moved_action mv f a) ≡ moved_result mv m (framed_act g s a)
    act_moved (Done w) none fit = refl
    act_moved (NewSlot w slot) none fit = ap Ok (slot_moved mv kinds m layouts answers names moves (settled s w) slot (fit ∙ holds.sound.top.values) s.top.mode holds.top)
    act_moved (Enter func args result must_tail) none fit = ap Ok (enter_moved mv kinds m names moves layouts answers s func args result)
    act_moved (Coro j args result) none fit =
        ap (λ (vs : List Value). framed_coro k (moved_state mv m s) j args vs result) (args_moved mv kinds m (mv.more f) s.top.values args)
        ∙ coro_moved j args (arg_values m s.top.values args) result fit.0 fit.1
    act_moved (Deallocate p) none fit = deallocate_moved mv m s p
    act_moved (GoTo label) none fit = absurd none
    act_moved (Return v) none fit = return_moved mv m s v below
    act_moved (Stuck cause) none fit = refl

    -- ---- terminators

    abbrev W : ℕ → ℕ → Type 0
    W t l = Goes f (mv.to f) (mv.spot f) (point_of s) t l

    goes_near : (t l : ℕ) → W t l → Near (framed_act g s (GoTo t)) (framed_act k (moved_state mv m s) (GoTo l))
    goes_near t l w = go_to_near mv kinds m layouts answers s (moves s.top.func) (names s.top.func).phis holds.sound.top.values own running t l w

    branch_near : (v : Value) (a b c d : ℕ) → W a c → W b d → Near (framed_act g s (branch v a b)) (framed_act k (moved_state mv m s) (branch v c d))
    branch_near (Value.Int x) a b c d u w = on (x.bits == 1)
      where
        on : (t : Bool) → Near (framed_act g s (GoTo (if t then a else b))) (framed_act k (moved_state mv m s) (GoTo (if t then c else d)))
        on true = goes_near a c u
        on false = goes_near b d w
    branch_near Value.Poison a b c d u w = refl
    branch_near (Value.Ptr p) a b c d u w = refl

    case_goes : (x : Word) (d e : ℕ) → W d e → (cases others : List Case) → ArePaired (λ (i : Case) (j : Case). (j.arg ≡ i.arg) × W i.target j.target) cases others → W (target_of m x d cases) (target_of (moved_module mv m) x e others)
    case_goes x d e w [] [] all = w
    case_goes x d e w [] (j ∷ others) all = absurd all
    case_goes x d e w (i ∷ cases) [] all = absurd all
    case_goes x d e w (i ∷ cases) (j ∷ others) all =
        on (is_word x (arg_value m [] i.arg)) (is_word x (arg_value (moved_module mv m) [] j.arg)) (ap (is_word x) (ap (arg_value (moved_module mv m) []) all.0.0 ∙ operand_moved mv kinds m 0 [] i.arg.ty i.arg.value)) (case_goes x d e w cases others all.1)
      where
        on : (a b : Bool) → b ≡ a → W (target_of m x d cases) (target_of (moved_module mv m) x e others) → W (if a then i.target else target_of m x d cases) (if b then j.target else target_of (moved_module mv m) x e others)
        on true true z again = all.0.1
        on true false z again = absurd (cc)
        on false true z again = absurd (cc)
        on false false z again = again

    switch_near : (v : Value) (d e : ℕ) → W d e → (cases others : List Case) → ArePaired (λ (i : Case) (j : Case). (j.arg ≡ i.arg) × W i.target j.target) cases others → Near (framed_act g s (switch m v d cases)) (framed_act k (moved_state mv m s) (switch (moved_module mv m) v e others))
    switch_near (Value.Int x) d e w cases others all = goes_near (target_of m x d cases) (target_of (moved_module mv m) x e others) (case_goes x d e w cases others all)
    switch_near Value.Poison d e w cases others all = refl
    switch_near (Value.Ptr p) d e w cases others all = refl

    abbrev before : Terminator → Action
    before t = term_action (framed_context g s) (work_of s) t

    abbrev behind : Terminator → Action
    behind t = term_action (framed_context k (moved_state mv m s)) (work_of (moved_state mv m s)) t

    operand_same : (x : Arg) → arg_value (moved_module mv m) (moved_state mv m s).top.values x ≡ arg_value m s.top.values x
    operand_same x = operand_moved mv kinds m (mv.more f) s.top.values x.ty x.value

    return_near : (v w : Option Value) → w ≡ v → Near (return s v) (return (moved_state mv m s) w)
    return_near v w e = same (return s v) (return (moved_state mv m s) w) (ap (return (moved_state mv m s)) e ∙ return_moved mv m s v below)

    term_near : (t u : Terminator) → TermsPaired W t u → Near (framed_act g s (before t)) (framed_act k (moved_state mv m s) (behind u))
    term_near (Terminator.Jump t) (Terminator.Jump l) w = goes_near t l w
    term_near (Terminator.Branch x a b) (Terminator.Branch y c d) w =
        subst (λ (v : Value). Near (framed_act g s (branch (operand_value m s.top.values (int 1) x) a b)) (framed_act k (moved_state mv m s) (branch v c d)))
        (sym (ap (operand_value (moved_module mv m) (moved_state mv m s).top.values (int 1)) w.0 ∙ operand_moved mv kinds m (mv.more f) s.top.values (int 1) x))
        (branch_near (operand_value m s.top.values (int 1) x) a b c d w.1.0 w.1.1)
    term_near (Terminator.Switch x d cases) (Terminator.Switch y e others) w =
        subst (λ (v : Value). Near (framed_act g s (switch m (arg_value m s.top.values x) d cases)) (framed_act k (moved_state mv m s) (switch (moved_module mv m) v e others)))
        (sym (ap (arg_value (moved_module mv m) (moved_state mv m s).top.values) w.0 ∙ operand_same x))
        (switch_near (arg_value m s.top.values x) d e w.1.0 cases others w.1.1)
    term_near (Terminator.Ret v) (Terminator.Ret u) w = subst (λ (x : Option Arg). Near (framed_act g s (before (Terminator.Ret v))) (framed_act k (moved_state mv m s) (behind (Terminator.Ret x)))) (sym w) (returns v)
      where
        returns : (v : Option Arg) → Near (framed_act g s (before (Terminator.Ret v))) (framed_act k (moved_state mv m s) (behind (Terminator.Ret v)))
        returns None = return_near None None refl
        returns (Some x) = return_near (Some (arg_value m s.top.values x)) (Some (arg_value (moved_module mv m) (moved_state mv m s).top.values x)) (ap (λ (v : Value). Some v) (operand_same x))
    term_near Terminator.Unreachable Terminator.Unreachable w = refl
    term_near _ _ w = absurd w

    -- ---- a step

    -- what is given its frame or acts, in both
    next_moved : (o : Option (Result State Cause)) (r q : Result State Cause) → q ≡ moved_result mv m r → unwrap_or (option_map (moved_result mv m) o) q ≡ moved_result mv m (unwrap_or o r)
    next_moved None r q e = e
    next_moved (Some x) r q e = refl

    pub instr_moved : (i : Instr) → AtInstr i ≡ here → framed_next k (moved_state mv m s) (AtInstr i) ≡ moved_result mv m (framed_next g s (AtInstr i))
    instr_moved i e =
        ap (λ (o : Option (Result State Cause)). unwrap_or o (framed_act k (moved_state mv m s) (action_of (framed_context k (moved_state mv m s)) (work_of (moved_state mv m s)) (AtInstr i)))) (given_call_moved mv kinds m names moves layouts answers s (AtInstr i))
        ∙ next_moved (given_call g s (AtInstr i)) (framed_act g s (action_of (framed_context g s) (work_of s) (AtInstr i))) (framed_act k (moved_state mv m s) (action_of (framed_context k (moved_state mv m s)) (work_of (moved_state mv m s)) (AtInstr i)))
        (ap (framed_act k (moved_state mv m s)) (action_moved mv kinds m layouts answers s (moves s.top.func) (AtInstr i) (subst (λ (z : Fetched). IsNamedResult (length s.top.values) (result_at z)) (sym e) (named (result_at here) refl)))
        ∙ act_moved (action_of (framed_context g s) (work_of s) (AtInstr i)) (instr_none (framed_context g s) (work_of s) i) (subst (λ (z : Fetched). Fits s.top.values z (action_of (framed_context g s) (work_of s) (AtInstr i))) e (fits (framed_context g s) (work_of s) (AtInstr i))))

    fetched_near : (x y : Fetched) → x ≡ here → AreFetched W x y → Near (framed_next g s x) (framed_next k (moved_state mv m s) y)
    fetched_near Nowhere Nowhere e w = refl
    fetched_near (AtInstr i) (AtInstr j) e w =
        subst (λ (z : Instr). Near (framed_next g s (AtInstr i)) (framed_next k (moved_state mv m s) (AtInstr z))) (sym w)
        (same (framed_next g s (AtInstr i)) (framed_next k (moved_state mv m s) (AtInstr i)) (instr_moved i e))
    fetched_near (AtTerm t) (AtTerm u) e w = term_near t u w
    fetched_near _ _ e w = absurd w

    -- each step comes to where the module's comes, or a step before it
    pub step_near : IsNear mv m layouts answers (framed_next g s (fetch (function_of g.given s) s.top.block s.top.at)) (framed_next k (moved_state mv m s) (fetch (function_of k.given (moved_state mv m s)) (moved_state mv m s).top.block s.top.at))
    step_near =
        fetched_near here (fetch (function_at (moved_module mv m) s.top.func) (mv.spot f s.top.block) s.top.at) refl
        (subst (λ (x : Function). AreFetched W here (fetch x (mv.spot f s.top.block) s.top.at)) (sym (function_moved mv kinds m s.top.func))
        ((moves s.top.func).places (point_of s)))
