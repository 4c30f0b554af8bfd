-- Each step of a run in which a resume hands on values is afforded: what is left behind a resume or a jump pays for the
-- jump from a block on a resume or destroy edge.
use Rattle.std.proofs.Common.{◌≡◌, ◌⊎◌, inl, inr, ⊎_elim, ℕ, ◌+◌, ◌-◌, ◌≤◌, Bool, true, false, List, [], ◌∷◌, length, Option, Some, None, Result, Ok, Err, refl, sym, ap, ◌∙◌, subst, arith, if◌then◌else◌}
use Rattle.std.specs.List.{list_all}
use Rattle.std.specs.Prelude.{not, slice_get, unwrap_or, ◌==◌, ◌&&◌}
use Rattle.compiler_theorem.proofs.theorem.Standing.{AreBehind, IsBottom, IsDone, IsNoWake, IsStanding, QuietResult, bottom_same, coro_quiet, freed_quiet, itself, next_quiet, not_first, return_quiet, slot_quiet}
use Rattle.compiler.specs.flow_solver.Paths.{IsListed}
use Rattle.compiler.specs.ir_base.declared.cause.Cause.{Cause}
use Rattle.compiler.specs.ir_base.declared.outcome.Outcome.{Outcome}
use Rattle.compiler.specs.ir_model.Names.{function_at, position_of}
use Rattle.compiler.specs.ir_model.declared.instr.Instr.{Instr}
use Rattle.compiler.specs.ir_model.declared.instr.Terminator.{Terminator}
use Rattle.compiler.specs.ir_model.declared.module.Block.{Block}
use Rattle.compiler.specs.ir_model.declared.module.Function.{Function}
use Rattle.compiler.specs.ir_model.declared.operand.Arg.{Arg}
use Rattle.compiler.specs.ir_model.declared.operand.Intrinsic.{Intrinsic}
use Rattle.compiler.specs.ir_paths.Paths.{targets}
use Rattle.compiler.specs.ir_paths.Windows.{destroy_label, resume_label}
use Rattle.compiler.specs.ir_paths.declared.point.Point.{Point}
use Rattle.compiler.specs.ir_paths.declared.point.Window.{Window}
use Rattle.pass_frames_meaning.proofs.called.Comes.{Comes, comes}
use Rattle.pass_frames_prices.proofs.bounds.Entry.{entry_unreturned}
use Rattle.pass_frames_prices.proofs.priced.Jumps.{Leads, leads}
use Rattle.pass_frames_prices.proofs.priced.Afforded.{afforded}
use Rattle.pass_frames_prices.proofs.priced.Left.{resume_leaves}
use Rattle.pass_frames_prices.proofs.priced.Sums.{place_few}
use Rattle.pass_frames_prices.specs.FramePrices.{AreWithin, coroutine_price, credit, frame_prices, full_price, left_at}
use Rattle.pass_frames_meaning.proofs.pass_frames_proof.ramps.Plain.{entry_there}
use Rattle.pass_frames_meaning.specs.pass_frames_proof.Framings.{IsFraming}
use Rattle.pass_frames_meaning.specs.pass_frames_proof.Passes.{block_at, no_block}
use Rattle.pass_frames_meaning.specs.pass_frames_proof.Places.{Framing, edged, instrs_at, is_return}
use Rattle.pass_frames_meaning.specs.pass_frames_proof.Related.{Building, is_coroutine}
use Rattle.compiler.specs.pass_kept_proof.Kept.{Keep, continue_keeping}
use Rattle.compiler.specs.pass_kept_proof.SuspendRules.{IsCallAt}
use Rattle.compiler.specs.pass_kept_proof.Related.{IsSoundStatus}
use Rattle.pass_frames_meaning.proofs.pass_renewed_meaning.ResumeCases.{sleeper_there}
use Rattle.pass_frames_meaning.specs.pass_renewed_proof.Prices.{Prices, anew_price, coroutine_of, kept_price, price_of, resumed_by, resumed_in}
use Rattle.pass_frames_meaning.specs.pass_renewed_proof.Renewed.{Flags}
use Rattle.compiler.proofs.rule_laws.rules.sources.Places.{IsEnd, term_there}
use Rattle.compiler.specs.rule_laws.frames.rows.Returns.{HaveOwnReturns}
use Rattle.compiler.specs.run_agreement.Machines.{IsFine}
use Rattle.pass_frames_meaning.proofs.run_hooks.Reached.{sound_get}
use Rattle.pass_frames_meaning.specs.run_hooks.Reached.{IsReachedState}
use Rattle.compiler.specs.run_memory.declared.pointer.Value.{Value}
use Rattle.compiler.specs.run_source.Source.{Continues, Sleeper, act, advance_by, branch_leaving, context_of, coro, deallocate, destroy, enter, enter_block, left_windows, may_leave, new_slot, resume, return, sleeper_at, step_by}
use Rattle.compiler.specs.run_source.State.{function_of, or_undefined, own_instance, settled, with_left, with_status, work_of}
use Rattle.compiler.specs.run_source.declared.state.Activation.{Activation}
use Rattle.compiler.specs.run_source.declared.state.Instance.{Instance}
use Rattle.compiler.specs.run_source.declared.state.State.{State}
use Rattle.compiler.specs.run_source.declared.state.Status.{Status}
use Rattle.compiler.specs.run_source_tables.Given.{Given, is_final}
use Rattle.compiler.specs.run_step.Results.{and_then, found, ok_if}
use Rattle.compiler.specs.run_step.Step.{Action, AtInstr, AtTerm, Coro, Deallocate, Done, Enter, Fetched, GoTo, NewSlot, Nowhere, Return, Stuck, Work, action_of, fetch, instr_action, term_action}
use Rattle.compiler.specs.run_step.Values.{Env, arg_values, nth}
use Rattle.compiler.specs.run_step.declared.world.Slot.{Slot}

-- what is asked of the coroutines of a run
pub record MayBePaid (b : Building) (k : Given) (names operands : ℕ) : Type 0 where
  pub framings : (func : ℕ) → is_coroutine b func ≡ true → IsFraming (b.framing func)
  pub coroutines : (func : ℕ) → is_coroutine b func ≡ true → function_at k.code func ≡ edged (b.framing func)
  pub returns : (func : ℕ) → is_coroutine b func ≡ true → HaveOwnReturns (edged (b.framing func))
  pub within : AreWithin b names operands
  -- K1
  pub suspends : (func : ℕ) (p : Point) → IsCallAt Intrinsic.CoroSuspend (function_at k.code func) p
      → is_coroutine b func ≡ true

pays_out : (full credit price left : ℕ) → price ≤ full - credit → left ≤ credit → credit ≤ full → price + left ≤ full
pays_out full credit price left a c d = omega (arith, a, c, d)

left_low : (c : Bool) (left : ℕ) → (if c then left else 0) ≤ left
left_low true left = omega arith
left_low false left = omega arith

got : (a c : State) → ◌≡◌ {A = Result State Cause} (Ok a) (Ok c) → a ≡ c
got a c e = cc

abbrev IsWake : Intrinsic → Type 0
IsWake Intrinsic.CoroResume = Unit {0}
IsWake Intrinsic.CoroDestroy = Unit {0}
IsWake _ = ⊥

kind_of : (i : Intrinsic) → IsWake i ⊎ IsNoWake i
kind_of Intrinsic.CoroResume = inl tt
kind_of Intrinsic.CoroDestroy = inl tt
kind_of _ = inr tt

none_woken : (k : Given) (s : State) (args : List Arg) (result : Option ℕ) (i : Intrinsic) → IsNoWake i
    → resumed_by k s (Coro i args result) ≡ None
none_woken k s args result Intrinsic.CoroResume q = absurd q
none_woken k s args result Intrinsic.CoroDestroy q = absurd q
none_woken k s args result _ q = refl

module _ (b : Building) (names operands entry : ℕ) (plain : is_coroutine b entry ≡ false) (k : Given) (keep : Keep)
    (flags : Flags) (paid : MayBePaid b k names operands) where
  abbrev P : Prices
  P = frame_prices b flags k.code names operands

  abbrev full : ℕ
  full = full_price names operands

  abbrev pub price : State → ℕ
  price s = kept_price P flags k s

  abbrev pub left : State → ℕ
  left s = left_at b names s

  abbrev go : Continues
  go = continue_keeping k keep

  -- what is left pays for the price
  pub record IsPaid (s t : State) : Type 0 where
    pub stands : IsStanding k entry t
    pub few : price s + left t ≤ full + left s

  abbrev PaidResult : State → Result State Cause → Type 0
  PaidResult s (Err cause) = Unit {0}
  PaidResult s (Ok t) = IsPaid s t

  -- ---- where no coroutine is woken

  sums : (p l full old : ℕ) → p ≤ full + old → l ≡ 0 → p + l ≤ full + old
  sums p l full old a e = omega (arith, a, e)

  none_price : (s : State) → resumed_in k s ≡ None → price s ≡ P.step s.top.func s.top.block s.top.at
  none_price s e =
      ap (λ (o : Option ℕ). price_of P s o + anew_price P flags k o) e
      ∙ (let z : P.step s.top.func s.top.block s.top.at + 0 ≡ P.step s.top.func s.top.block s.top.at = omega arith in z)

  own_few : (s : State) → resumed_in k s ≡ None → price s ≤ full + left s
  own_few s e =
      let a = place_few b flags k.code names operands s in
      let c = none_price s e in
      omega (arith, a, c)

  quiet_paid : (s : State) → resumed_in k s ≡ None → (r : Result State Cause)
      → QuietResult b names entry plain k r → PaidResult s r
  quiet_paid s e (Err cause) q = tt
  quiet_paid s e (Ok t) q = record { stands = q.stands; few = sums (price s) (left t) full (left s) (own_few s e) q.none }

  module _ (s : State) (running : s.outcome ≡ Outcome.Running) (reached : IsReachedState k s)
      (z : IsStanding k entry s) where
    abbrev act_here : Action
    act_here = action_of (context_of k s) (work_of s) (fetch (function_of k s) s.top.block s.top.at)

    -- ---- a new activation on top

    pushed : (t : State) → t.below ≡ record s.top { at = s.top.at + 1 } ∷ s.below → t.outcome ≡ s.outcome
        → IsStanding k entry t
    pushed t below outcome = record {
      behind = subst (λ (bs : List Activation). AreBehind bs) (sym below)
          (not_first s.top.at, z.behind);
      bottom = subst (λ (bs : List Activation). IsBottom entry t.top bs)
          (sym below) (bottom_same entry s.top (record s.top { at = s.top.at + 1 }) s.below refl refl z.bottom);
      over = inl (outcome ∙ running);
    }

    entered_left : (func : ℕ) (args : List Value) (result : Option ℕ) → left (enter k s func args result) ≡ 0
    entered_left func args result = on (is_coroutine b func) refl
      where
        by : (r : Bool) → r ≡ false → (if r && true then credit names else 0) ≡ 0
        by false e = refl
        by true e = absurd (cc)

        on : (c : Bool) → is_coroutine b func ≡ c
            → (if c && (is_return (b.framing func) 0 && true) then credit names else 0) ≡ 0
        on false e = refl
        on true e =
            let is = paid.framings func e in
            by (is_return (b.framing func) 0) (entry_unreturned (b.framing func) is (entry_there (b.framing func) is))

    entered_paid : resumed_in k s ≡ None → (func : ℕ) (args : List Value) (result : Option ℕ)
        → IsPaid s (enter k s func args result)
    entered_paid e func args result = record {
      stands = pushed (enter k s func args result) refl refl;
      few = sums (price s) (left (enter k s func args result)) full (left s) (own_few s e)
          (entered_left func args result);
    }

    -- ---- a coroutine is woken

    credit_less : credit names ≤ full
    credit_less = omega arith

    woken_price : (func : ℕ) → is_coroutine b func ≡ true → resumed_in k s ≡ Some func → price s ≤ full - credit names
    woken_price func c e =
        let same : price s ≡ price_of P s (Some func) + anew_price P flags k (Some func)
        = ap (λ (o : Option ℕ). price_of P s o + anew_price P flags k o) e in
        let few = resume_leaves (b.framing func) (paid.framings func c) names operands (paid.within.each func c) k.code func
        (paid.coroutines func c) flags in
        subst (λ (n : ℕ). n ≤ full - credit names) (sym same) few

    woken_paid : (p : Value) → resumed_in k s ≡ coroutine_of (sleeper_at s p)
        → (f : Sleeper → Result State Cause) → ((y : Sleeper) → (t : State) → f y ≡ Ok t → IsStanding k entry t)
        → PaidResult s (and_then (sleeper_at s p) f)
    woken_paid p e f h = on (sleeper_at s p) refl
      where
        of_suspended : (func : ℕ) (status : Status) (u : Point) (values : Env)
            → status ≡ Status.Suspended u values → IsSoundStatus k func status
            → IsCallAt Intrinsic.CoroSuspend (function_at k.code func) u
        of_suspended func status u values is sound = (subst (IsSoundStatus k func) is sound).1

        by : (y : Sleeper) → sleeper_at s p ≡ Ok y → (r : Result State Cause) → f y ≡ r → PaidResult s r
        by y found (Err cause) d = tt
        by y found (Ok t) d =
            let at = sleeper_there s p y found in
            let sound = sound_get k s.instances y.number y.instance reached.instances at.there in
            let c = paid.suspends y.instance.coroutine y.suspend
            (of_suspended y.instance.coroutine y.instance.status y.suspend y.values at.status sound) in
            let few_price = woken_price y.instance.coroutine c (e ∙ ap coroutine_of found) in
            let all = pays_out full (credit names) (price s) (left t) few_price (left_low _ (credit names)) credit_less in
            record { stands = h y t d; few = omega (arith, all) }

        on : (r : Result Sleeper Cause) → sleeper_at s p ≡ r → PaidResult s (and_then r f)
        on (Err cause) d = tt
        on (Ok y) d = by y d (f y) refl

    -- it goes on at a label
    went : (i : ℕ) (x : Instance) (u : Point) (values : Env) (label : ℕ)
        → IsStanding k entry (go s i x u values label)
    went i x u values label = pushed (go s i x u values label) refl refl

    resumed_paid : (p : Value) → resumed_in k s ≡ coroutine_of (sleeper_at s p)
        → PaidResult s (resume k go s p)
    resumed_paid p e = woken_paid p e _ (λ y t d. by y t (not (is_final (function_at k.code y.instance.coroutine) y.suspend)) d)
      where
        by : (y : Sleeper) (t : State) (c : Bool)
            → ok_if c Cause.State (go s y.number y.instance y.suspend y.values
            (resume_label (function_at k.code y.instance.coroutine) y.suspend)) ≡ Ok t → IsStanding k entry t
        by y t false d = absurd (cc)
        by y t true d =
            subst (IsStanding k entry) (got _ t d)
            (went y.number y.instance y.suspend y.values
            (resume_label (function_at k.code y.instance.coroutine) y.suspend))

    destroyed_paid : (p : Value) → resumed_in k s ≡ coroutine_of (sleeper_at s p)
        → PaidResult s (destroy k go s p)
    destroyed_paid p e = woken_paid p e _ (λ y t d.
        subst (IsStanding k entry) (got _ t d)
        (went y.number y.instance y.suspend y.values
        (destroy_label (function_at k.code y.instance.coroutine) y.suspend)))

    -- ---- what does the same wherever it comes from

    resumed_as : (a : Action) → act_here ≡ a → resumed_in k s ≡ resumed_by k s a
    resumed_as a e = ap (resumed_by k s) e

    woken_coro : (i : Intrinsic) → IsWake i → (args : List Arg) (result : Option ℕ) → act_here ≡ Coro i args result
        → PaidResult s (coro k go s i args (arg_values k.code s.top.values args) result)
    woken_coro Intrinsic.CoroResume q args result e =
        resumed_paid (nth (arg_values k.code s.top.values args) 0) (resumed_as (Coro Intrinsic.CoroResume args result) e)
    woken_coro Intrinsic.CoroDestroy q args result e =
        destroyed_paid (nth (arg_values k.code s.top.values args) 0)
        (resumed_as (Coro Intrinsic.CoroDestroy args result) e)
    woken_coro _ q args result e = absurd q

    coro_paid : (i : Intrinsic) (args : List Arg) (result : Option ℕ) → act_here ≡ Coro i args result
        → PaidResult s (coro k go s i args (arg_values k.code s.top.values args) result)
    coro_paid i args result e = ⊎_elim
        (λ (q : IsWake i). woken_coro i q args result e)
        (λ (q : IsNoWake i).
        quiet_paid s (resumed_as (Coro i args result) e ∙ none_woken k s args result i q)
        (coro k go s i args (arg_values k.code s.top.values args) result)
        (coro_quiet b names entry plain k s running z go args (arg_values k.code s.top.values args) result i q))
        (kind_of i)

    done_paid : (w : Work) → act_here ≡ Done w → IsPaid s (settled s w)
    done_paid w e = quiet_paid s (resumed_as (Done w) e) (Ok (settled s w))
        (next_quiet b names entry plain k s running z (settled s w)
        (record { func = refl; mode = refl; at = refl; below = refl; outcome = refl }))

    slot_paid : (w : Work) (slot : Slot) → act_here ≡ NewSlot w slot → IsPaid s (new_slot k (settled s w) slot)
    slot_paid w slot e = quiet_paid s (resumed_as (NewSlot w slot) e) (Ok (new_slot k (settled s w) slot))
        (slot_quiet b names entry plain k s running z w slot)

    freed_paid : (p : Value) → act_here ≡ Deallocate p → PaidResult s (deallocate s p)
    freed_paid p e = quiet_paid s (resumed_as (Deallocate p) e) (deallocate s p)
        (freed_quiet b names entry plain k s running z p)

    instr_paid : (i : Instr) (a : Action) → act_here ≡ a → Comes i a → PaidResult s (act k go s a)
    instr_paid i (Stuck cause) e q = tt
    instr_paid i (Done w) e q = done_paid w e
    instr_paid i (NewSlot w slot) e q = slot_paid w slot e
    instr_paid i (Enter func args result must_tail) e q =
        entered_paid (resumed_as (Enter func args result must_tail) e) func args result
    instr_paid i (Coro x args result) e q = coro_paid x args result e
    instr_paid i (Deallocate p) e q = freed_paid p e
    instr_paid i (GoTo label) e q = absurd q
    instr_paid i (Return v) e q = absurd q

    -- ---- terminators

    module _ (t : Terminator) (there : fetch (function_of k s) s.top.block s.top.at ≡ AtTerm t) where
      -- the activation enters a block of its function
      record IsEntered (label : ℕ) (u : State) : Type 0 where
        func : u.top.func ≡ s.top.func
        mode : u.top.mode ≡ s.top.mode
        block : u.top.block ≡ position_of (function_of k s) label
        at : u.top.at ≡ 0
        below : u.below ≡ s.below
        outcome : u.outcome ≡ s.outcome

      coroutine_few : is_coroutine b s.top.func ≡ true → (label : ℕ) → IsListed label (targets t)
          → coroutine_price full (credit names) (b.framing s.top.func) s.top.block s.top.at
          + (if is_return (b.framing s.top.func) (position_of (function_of k s) label) then credit names else 0)
          ≤ full + (if is_return (b.framing s.top.func) s.top.block && (s.top.at == 0) then credit names else 0)
      coroutine_few c label listed =
          let x : Framing = b.framing s.top.func in
          let same : function_of k s ≡ edged x = paid.coroutines s.top.func c in
          let end : IsEnd (edged x) s.top.block s.top.at t
          = term_there (edged x) s.top.block s.top.at t
          (ap (λ (f : Function). fetch f s.top.block s.top.at) (sym same) ∙ there) in
          let own : block_at (edged x) s.top.block ≡ end.own
          = ap (λ (o : Option Block). unwrap_or o no_block) end.got in
          let got_is : slice_get (edged x).blocks s.top.block ≡ Some (block_at (edged x) s.top.block)
          = end.got ∙ ap Some (sym own) in
          let last : s.top.at ≡ length (instrs_at x s.top.block)
          = end.last ∙ ap (λ (c : Block). length c.instrs) (sym own) in
          let goes : IsListed label (targets (block_at (edged x) s.top.block).term)
          = subst (λ (u : Terminator). IsListed label (targets u)) (sym (ap (λ (c : Block). c.term) own ∙ end.is)) listed in
          let few = afforded x (paid.framings s.top.func c) (paid.returns s.top.func c) names operands s.top.block label
          got_is goes in
          subst (λ (f : Function). coroutine_price full (credit names) x s.top.block s.top.at
          + (if is_return x (position_of f label) then credit names else 0)
          ≤ full + (if is_return x s.top.block && (s.top.at == 0) then credit names else 0)) (sym same)
          (subst (λ (n : ℕ). coroutine_price full (credit names) x s.top.block n
          + (if is_return x (position_of (edged x) label) then credit names else 0)
          ≤ full + (if is_return x s.top.block && (n == 0) then credit names else 0)) (sym last) few)

      jump_few : (label : ℕ) → IsListed label (targets t) → (c : Bool) → is_coroutine b s.top.func ≡ c
          → (if c then coroutine_price full (credit names) (b.framing s.top.func) s.top.block s.top.at else full)
          + (if c && (is_return (b.framing s.top.func) (position_of (function_of k s) label) && true) then credit names else 0)
          ≤ full + (if c && (is_return (b.framing s.top.func) s.top.block && (s.top.at == 0)) then credit names else 0)
      jump_few label listed false e = omega arith
      jump_few label listed true e = with_true (is_return (b.framing s.top.func) (position_of (function_of k s) label))
          (coroutine_few e label listed)
        where
          with_true : (r : Bool)
              → coroutine_price full (credit names) (b.framing s.top.func) s.top.block s.top.at + (if r then credit names else 0)
              ≤ full + (if is_return (b.framing s.top.func) s.top.block && (s.top.at == 0) then credit names else 0)
              → coroutine_price full (credit names) (b.framing s.top.func) s.top.block s.top.at
              + (if r && true then credit names else 0)
              ≤ full + (if is_return (b.framing s.top.func) s.top.block && (s.top.at == 0) then credit names else 0)
          with_true true h = h
          with_true false h = h

      left_there : (label : ℕ) (u : State) → IsEntered label u
          → left u ≡ (if is_coroutine b s.top.func
          && (is_return (b.framing s.top.func) (position_of (function_of k s) label) && true) then credit names else 0)
      left_there label u h = λ j. if is_coroutine b (h.func j)
          && (is_return (b.framing (h.func j)) (h.block j) && (h.at j == 0)) then credit names else 0

      entered_at : (label : ℕ) → IsListed label (targets t) → resumed_in k s ≡ None → (u : State) → IsEntered label u
          → IsPaid s u
      entered_at label listed none u h =
          let few = jump_few label listed (is_coroutine b s.top.func) refl in
          let own = none_price s none in
          let there' = left_there label u h in
          record {
            stands = record {
              behind = subst (λ (bs : List Activation). AreBehind bs)
                  (sym h.below) z.behind;
              bottom = subst (λ (bs : List Activation). IsBottom entry u.top bs) (sym h.below)
                  (bottom_same entry s.top u.top s.below h.func h.mode z.bottom);
              over = inl (h.outcome ∙ running);
            };
            few = omega (arith, few, own, there');
          }

      goes_paid : (label : ℕ) → IsListed label (targets t) → resumed_in k s ≡ None → (ws : List Window)
          → PaidResult s (branch_leaving k s label ws)
      goes_paid label listed none [] =
          entered_at label listed none (enter_block k s label)
          (record { func = refl; mode = refl; block = refl; at = refl; below = refl; outcome = refl })
      goes_paid label listed none (w ∷ ws) = on (own_instance s)
        where
          by : (q : ℕ × Instance) (c : Bool)
              → PaidResult s (ok_if c Cause.State (enter_block k (with_left
              (with_status s q.0 q.1 Status.Running) false) label))
          by q false = tt
          by q true = entered_at label listed none _
              (record { func = refl; mode = refl; block = refl; at = refl; below = refl; outcome = refl })

          on : (o : Option (ℕ × Instance))
              → PaidResult s (and_then (found Cause.State o) (λ (i, x).
              ok_if (list_all (may_leave (length s.below) x) (w ∷ ws))
              Cause.State
              (enter_block k (with_left
              (with_status s i x Status.Running) false) label)))
          on None = tt
          on (Some q) = by q _

      term_paid : (a : Action) → act_here ≡ a → Leads t a → PaidResult s (act k go s a)
      term_paid (Stuck cause) e q = tt
      term_paid (Done w) e q = done_paid w e
      term_paid (NewSlot w slot) e q = slot_paid w slot e
      term_paid (Enter func args result must_tail) e q = absurd q
      term_paid (Coro x args result) e q = absurd q
      term_paid (Deallocate p) e q = freed_paid p e
      term_paid (GoTo label) e q = goes_paid label q (resumed_as (GoTo label) e) (left_windows k s label)
      term_paid (Return v) e q =
          quiet_paid s (resumed_as (Return v) e) (return s v)
          (return_quiet b names entry plain k s running z s (itself s) v
          (λ d. record { term = t; there = there; alone = d }))

    act_paid : (x : Fetched) → fetch (function_of k s) s.top.block s.top.at ≡ x
        → PaidResult s (act k go s (action_of (context_of k s) (work_of s) x))
    act_paid Nowhere e = tt
    act_paid (AtInstr i) e =
        instr_paid i (instr_action (context_of k s) (work_of s) i)
        (ap (action_of (context_of k s) (work_of s)) e) (comes (context_of k s) (work_of s) i)
    act_paid (AtTerm t) e =
        term_paid t e (term_action (context_of k s) (work_of s) t) (ap (action_of (context_of k s) (work_of s)) e)
        (leads (context_of k s) (work_of s) t (term_action (context_of k s) (work_of s) t) refl)

    or_paid : (r : Result State Cause) → PaidResult s r → IsFine (or_undefined k s r).outcome
        → IsPaid s (or_undefined k s r)
    or_paid (Err cause) q fine = absurd fine
    or_paid (Ok t) q fine = q

    runs_paid : IsFine (or_undefined k s (act k go s act_here)).outcome
        → IsPaid s (or_undefined k s (act k go s act_here))
    runs_paid = or_paid (act k go s act_here)
        (act_paid (fetch (function_of k s) s.top.block s.top.at) refl)

  -- ---- a run that is over

  over_none : (s : State) (t : Terminator) → fetch (function_of k s) s.top.block s.top.at ≡ AtTerm t
      → resumed_in k s ≡ None
  over_none s t e =
      ap (λ (x : Fetched). resumed_by k s (action_of (context_of k s) (work_of s) x)) e
      ∙ on (term_action (context_of k s) (work_of s) t)
      (leads (context_of k s) (work_of s) t (term_action (context_of k s) (work_of s) t) refl)
    where
      on : (a : Action) → Leads t a → resumed_by k s a ≡ None
      on (Stuck cause) q = refl
      on (Done w) q = refl
      on (NewSlot w slot) q = refl
      on (Enter func args result must_tail) q = absurd q
      on (Coro x args result) q = absurd q
      on (Deallocate p) q = refl
      on (GoTo label) q = refl
      on (Return v) q = refl

  over_few : (s : State) → IsStanding k entry s → (s.outcome ≡ Outcome.Running → ⊥) → price s + left s ≤ full + left s
  over_few s z over = ⊎_elim (λ (e : s.outcome ≡ Outcome.Running). absurd (over e)) (λ (d : IsDone k s).
      let none = over_none s d.term d.there in
      let bottom = subst (IsBottom entry s.top) d.alone z.bottom in
      let outside : is_coroutine b s.top.func ≡ false = ap (is_coroutine b) bottom.0 ∙ plain in
      let own = none_price s none in
      let flat : P.step s.top.func s.top.block s.top.at ≡ full
      = ap (λ (c : Bool). if c
      then coroutine_price full (credit names) (b.framing s.top.func) s.top.block s.top.at else full) outside in
      omega (arith, own, flat)) z.over

  -- ---- each step

  step_paid : (s : State) → IsReachedState k s → IsStanding k entry s → (o : Outcome) → s.outcome ≡ o
      → IsFine (advance_by k go s o).outcome → IsPaid s (advance_by k go s o)
  step_paid s reached z Outcome.Running e fine = runs_paid s e reached z fine
  step_paid s reached z (Outcome.Returned v) e fine = record {
    stands = z;
    few = over_few s z (λ d. let no : Outcome.Running ≡ Outcome.Returned v = sym d ∙ e in absurd (cc));
  }
  step_paid s reached z (Outcome.Undefined cause place) e fine =
      absurd (subst IsFine e fine)

  pub steps_paid : (s : State) → IsReachedState k s → IsStanding k entry s → IsFine (step_by k go s).outcome
      → IsPaid s (step_by k go s)
  steps_paid s reached z fine = step_paid s reached z s.outcome refl fine
