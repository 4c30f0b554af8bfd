-- Steps by hooks come from placed states to placed states, and so do runs.
use Rattle.std.proofs.Common.{◌≡◌, ◌⊎◌, inl, inr, ℕ, zero, suc, ◌+◌, Bool, true, false, List, [], ◌∷◌}
use Rattle.std.proofs.Common.{Option, Some, None, Result, Ok, Err, refl, sym, ap, ◌∙◌, subst, arith}
use Rattle.std.specs.Prelude.{if◌then◌else◌, length, negsuc, not, slice_get}
use Rattle.std.specs.Prelude.{unwrap_or}
use Rattle.pass_renewed_proof.specs.ir_base.declared.cause.Cause.{Cause}
use Rattle.pass_renewed_proof.specs.ir_base.declared.outcome.Outcome.{Outcome}
use Rattle.pass_renewed_proof.specs.ir_base.declared.outcome.Word.{Word}
use Rattle.pass_renewed_proof.specs.ir_model.Names.{function_at, position_of, same_intrinsic}
use Rattle.pass_renewed_proof.specs.ir_model.Ty.{Ty}
use Rattle.pass_renewed_proof.specs.ir_model.declared.instr.Case.{Case}
use Rattle.pass_renewed_proof.specs.ir_model.declared.instr.Instr.{Instr}
use Rattle.pass_renewed_proof.specs.ir_model.declared.instr.Terminator.{Terminator}
use Rattle.pass_renewed_proof.specs.ir_model.declared.module.Function.{Function}
use Rattle.pass_renewed_proof.specs.ir_model.declared.operand.Arg.{Arg}
use Rattle.pass_renewed_proof.specs.ir_model.declared.operand.Callee.{Callee}
use Rattle.pass_renewed_proof.specs.ir_model.declared.operand.Intrinsic.{Intrinsic}
use Rattle.pass_renewed_proof.specs.ir_model.declared.operand.Operand.{Operand}
use Rattle.pass_renewed_proof.specs.ir_paths.Facts.{IsWindow}
use Rattle.pass_renewed_proof.specs.ir_paths.Paths.{entry_point, has_point, nexts}
use Rattle.pass_renewed_proof.specs.ir_paths.Windows.{IsInWindow, call_result, end_block, is_call_of, leaves, operand_at, suspend_of}
use Rattle.pass_renewed_proof.specs.ir_paths.declared.point.Point.{Point}
use Rattle.pass_renewed_proof.specs.ir_paths.declared.point.Window.{Window}
use Rattle.pass_renewed_proof.proofs.pass_kept_proof.Actions.{SameAction, action_same}
use Rattle.pass_renewed_proof.proofs.pass_kept_proof.Same.{same_all}
use Rattle.pass_renewed_proof.specs.pass_kept_proof.Needed.{BranchesTo}
use Rattle.pass_renewed_proof.specs.pass_kept_proof.SuspendRules.{IsCallAt}
use Rattle.pass_renewed_proof.specs.Left.{IsLeftAt, IsLeftBy}
use Rattle.pass_renewed_proof.specs.Left as left
use Rattle.run_hooks.proofs.Points.{away_at_save, away_at_suspend, away_next, behind, behind_suspend}
use Rattle.run_hooks.proofs.Points.{branch_away, branch_clear, branch_left, clear_next, instr_once}
use Rattle.run_hooks.proofs.Points.{resumed_clear, save_no_suspend, saved_away, saved_status, straight, pair_suspend}
use Rattle.run_hooks.proofs.Points.{window_comes}
use Rattle.run_hooks.proofs.Reached.{at_is, found_is, not_entering, own_function, own_is}
use Rattle.run_hooks.proofs.Reaching.{first_reached, step_stays}
use Rattle.run_hooks.specs.Away.{ArePlaced, ArePlacedInstances, AtEnd, Behind, HasStop, IsAway, IsBehind, IsWaiting}
use Rattle.run_hooks.specs.Away.{Waits}
use Rattle.run_hooks.specs.Away.{IsBehindAlloca, IsClear, IsClearBut, IsNextPlaced, IsPair}
use Rattle.run_hooks.specs.Away.{IsPlaced, IsPlacedState, IsPlacedTop, KeepsAllPlaceRules, KeepsPlaceRules}
use Rattle.run_hooks.specs.Away.{KeepsPlaced, StaysPlaced, StopsAlone, behind_instr, point_in, spot_by}
use Rattle.run_hooks.specs.Hooks.{Hooks, hooked_act, hooked_advance, hooked_context, hooked_coro, hooked_next}
use Rattle.run_hooks.specs.Hooks.{hooked_state_at, step_of}
use Rattle.run_hooks.specs.Reached.{AllHaveSwitches, IsReachedState, KeepsReached}
use Rattle.pass_renewed_proof.specs.run_step.Runs.{iterate}
use Rattle.pass_renewed_proof.specs.run_memory.declared.pointer.Value.{Value}
use Rattle.pass_renewed_proof.specs.run_source.Source.{after_end, first_state, branch_leaving, called, go_to, if_let_go}
use Rattle.pass_renewed_proof.specs.run_source.Source.{left_windows, mode_of, release}
use Rattle.pass_renewed_proof.specs.run_source.Source.{save_for, suspend}
use Rattle.pass_renewed_proof.specs.run_source.State.{function_of, gives, instance_at, next, or_undefined, own_facts, own_instance}
use Rattle.pass_renewed_proof.specs.run_source.State.{point_of}
use Rattle.pass_renewed_proof.specs.run_source.State.{settled, with_instance, with_left, work_of}
use Rattle.pass_renewed_proof.specs.run_source.declared.state.Activation.{Activation}
use Rattle.pass_renewed_proof.specs.run_source.declared.state.Instance.{Instance}
use Rattle.pass_renewed_proof.specs.run_source.declared.state.Mode.{Mode}
use Rattle.pass_renewed_proof.specs.run_source.declared.state.State.{State}
use Rattle.pass_renewed_proof.specs.run_source.declared.state.Status.{Status}
use Rattle.pass_renewed_proof.specs.run_step.Effects.{is_alloca}
use Rattle.pass_renewed_proof.specs.run_step.Results.{and_then, found, ok_if}
use Rattle.pass_renewed_proof.specs.run_step.Step.{Action, AtInstr, AtTerm, Context, Coro, Deallocate, Done, Enter, Fetched, GoTo}
use Rattle.pass_renewed_proof.specs.run_step.Step.{NewSlot, Nowhere}
use Rattle.pass_renewed_proof.specs.run_step.Step.{Return, Stuck, Work, action_of, deallocated, fetch, switch, target_of}
use Rattle.pass_renewed_proof.specs.run_ints.Numbers.{word_of}
use Rattle.pass_renewed_proof.specs.run_step.Values.{Env, arg_value, integer, nth, with_result}
use Rattle.run_hooks.proofs.Placing.{IsCoro, IsSlot, IsStuck, NotEntering, Slots, alloca_acts, alloca_no_call, at_stop}
use Rattle.run_hooks.proofs.Placing.{away_here, behind_any, called_placed, change_placed, clear_at, clear_here}
use Rattle.run_hooks.proofs.Placing.{each_is, end_acts, end_next, end_placed, first_kept, gives_placed, let_go_next}
use Rattle.run_hooks.proofs.Placing.{next_placed, no_entering, none_kept, not_fresh, ok_placed, ordinary_next}
use Rattle.run_hooks.proofs.Placing.{own_branch, pair_window, placed_set, plain_next, release_below, release_top}
use Rattle.run_hooks.proofs.Placing.{return_placed, save_acts, sleeper_placed, spot_here, suspend_acts, suspended_call}
use Rattle.run_hooks.proofs.Placing.{suspended_clear, term_no_instr, then_placed, window_pair, with_instances}

-- ---- a step by hooks

module _ (hooks : Hooks) (rules : KeepsAllPlaceRules hooks.given) (keeps : KeepsPlaced hooks) (s : State)
    (reached : IsReachedState hooks.given s) (h : IsPlacedState hooks s) where
  abbrev g : Hooks
  g = hooks

  abbrev f : Function
  f = function_of g.given s

  abbrev p : Point
  p = point_in s.top

  abbrev here : Fetched
  here = fetch f s.top.block s.top.at

  abbrev r : KeepsPlaceRules hooks.given.code (function_of hooks.given s)
  r = rules.each s.top.func

  -- an instance that there is has the function of the topmost activation
  own_there : (q : ℕ × Instance) → found Cause.State (own_instance s) ≡ Ok q
      → (slice_get s.instances q.0 ≡ Some q.1) × (q.1.coroutine ≡ s.top.func)
  own_there q e =
      let k : own_instance s ≡ Some q = found_is Cause.State (own_instance s) q e in
      (own_is s q.0 q.1 k, own_function g.given s reached q.0 q.1 k)

  -- ---- saves and suspends

  -- a place from which a save is made for a suspend, and what holds behind it
  save_placed : (k u : Point) (result : Option ℕ) (v : Value) → IsClearBut f u u
      → ((t : State) → t.top ≡ record s.top { has_left = true } → t.below ≡ s.below
      → ArePlacedInstances g.given.code t.instances → IsPlacedState g (gives t result v))
      → StaysPlaced g (and_then (save_for s k u) (λ z. Ok (gives z result v)))
  save_placed k u result v clear goes = on (found Cause.State (own_instance s)) own_there
    where
      on : (o : Result (ℕ × Instance) Cause) → ((q : ℕ × Instance) → o ≡ Ok q
          → (slice_get s.instances q.0 ≡ Some q.1) × (q.1.coroutine ≡ s.top.func))
          → StaysPlaced g (and_then (and_then o (λ q. ok_if (not q.1.freed) Cause.State (with_left
          (with_instance s q.0 (record q.1 {
            status = Status.Suspended u s.top.values;
            last_save = Some
                (record { depth = length s.below; save = k });
          })) true)))
          (λ z. Ok (gives z result v)))
      on (Err cause) is = tt
      on (Ok q) is = by (not q.1.freed)
        where
          fact : (slice_get s.instances q.0 ≡ Some q.1) × (q.1.coroutine ≡ s.top.func)
          fact = is q refl

          by : (b : Bool) → StaysPlaced g (and_then (ok_if b Cause.State (with_left
              (with_instance s q.0 (record q.1 {
                status = Status.Suspended u s.top.values;
                last_save = Some
                    (record { depth = length s.below; save = k });
              })) true))
              (λ z. Ok (gives z result v)))
          by true = goes _ refl refl (placed_set g.given s.instances q.0 (record q.1 {
            status = Status.Suspended u s.top.values;
            last_save = Some (record { depth = length s.below; save = k });
          }) h.instances (subst (λ (n : ℕ). IsClearBut (function_at g.given.code n) u u) (sym fact.1) clear))
          by false = tt

  -- where an activation that isn't entering has a clear place at a save
  clear_at_save : IsCallAt Intrinsic.CoroSave f p → NotEntering g rules s reached h → IsClear f p
  clear_at_save c never = on s.top.has_left refl
    where
      on : (b : Bool) → s.top.has_left ≡ b → IsClear f p
      on false e = clear_here g rules s reached h never e
      on true e = away_at_save g.given.code f r p (away_here g rules s reached h c.instr c.stands e) c

  -- and at a suspend but for that
  clear_at_suspend : IsCallAt Intrinsic.CoroSuspend f p → NotEntering g rules s reached h → IsClearBut f p p
  clear_at_suspend c never = on s.top.has_left refl
    where
      on : (b : Bool) → s.top.has_left ≡ b → IsClearBut f p p
      on false e = λ k t pair w. absurd (clear_here g rules s reached h never e k t pair w)
      on true e = away_at_suspend g.given.code f r p (away_here g rules s reached h c.instr c.stands e) c

  saves : (c : IsCallAt Intrinsic.CoroSave f p) → NotEntering g rules s reached h → (u : Point)
      → suspend_of f p ≡ Some u
      → StaysPlaced g (and_then (save_for s p u) (λ z. Ok (next z)))
  saves c never u e = save_placed p u None Value.Poison (saved_status g.given.code f r p u pair clear) goes
    where
      pair : IsPair f p u
      pair = record { is_save = c; takes = e }

      clear : IsClear f p
      clear = clear_at_save c never

      goes : (t : State) → t.top ≡ record s.top { has_left = true } → t.below ≡ s.below
          → ArePlacedInstances g.given.code t.instances → IsPlacedState g (next t)
      goes t et eb k = next_placed g t (record {
        waits = subst (λ (a : Activation). IsPlaced g (function_at g.given.code a.func) (behind_instr a)) (sym et)
            (record {
              clear = λ d. absurd (cc);
              away = λ d. saved_away g.given.code f r p u pair clear;
              entering = λ from label d. absurd (never from label d);
              fresh = not_fresh g rules s reached h (λ d. save_no_suspend f p c d);
            });
        below = subst (ArePlaced g) (sym eb) h.below;
        instances = k;
      }) (work_of t)

  -- behind a suspend the switch takes the stop edge
  suspended : (c : IsCallAt Intrinsic.CoroSuspend f p) → NotEntering g rules s reached h → (result : Option ℕ)
      → call_result c.instr ≡ result
      → (t : State) → t.top ≡ s.top ⊎ (t.top ≡ record s.top { has_left = true }) → t.below ≡ s.below
      → ArePlacedInstances g.given.code t.instances
      → IsPlacedState g (gives t result (integer 8 (negsuc 0)))
  suspended c never result er t et eb k = record {
    top = on et;
    below = subst (ArePlaced g) (sym eb) h.below;
    instances = k;
  }
    where
      clear : IsClear f (behind p)
      clear = behind_suspend g.given.code f r p c (clear_at_suspend c never)

      is_behind : IsBehind f (behind p)
      is_behind = record { suspend = p; is_suspend = c; next = refl }

      stops : (values : Env) → StopsAlone g.given.code f (with_result values result (integer 8 (negsuc 0))) (behind p)
      stops values arg default cases label e es =
          let stop : HasStop g.given.code f p = r.stops p c in
          let same : AtTerm (Terminator.Switch arg default cases) ≡ AtTerm
          (Terminator.Switch stop.arg stop.default stop.cases) = sym e ∙ stop.stands in
          let ea : arg ≡ stop.arg = cc in
          let ed : default ≡ stop.default = cc in
          let ec : cases ≡ stop.cases = cc in
          let named = stop.result c.instr c.stands in
          let en : result ≡ Some named.0 = sym er ∙ named.1 in
          at_stop g.given.code f values result named.0 en arg default cases label (ap (λ (x : Arg). x.value) ea
          ∙ named.2)
          (subst (λ (d : ℕ). target_of g.given.code (word_of 8 (negsuc 0)) d cases ≡ d) (sym ed)
          (subst (λ (x : List Case). target_of g.given.code (word_of 8 (negsuc 0)) stop.default x ≡ stop.default)
          (sym ec) stop.stop))
          (subst (λ (d : ℕ). position_of f d ≡ end_block f) (sym ed) stop.end) es

      of : (a : Activation) → a ≡ s.top ⊎ (a ≡ record s.top { has_left = true })
          → IsPlacedTop g (function_at g.given.code a.func) (record a {
            at = a.at + 1;
            values = with_result a.values
                result (integer 8 (negsuc 0));
          })
      of a (inl e) = subst (λ (b : Activation). IsPlacedTop g (function_at g.given.code b.func)
          (record b { at = b.at + 1; values = with_result b.values result (integer 8 (negsuc 0)) })) (sym e) (record {
            clear = λ d. clear_at g rules s reached h never (behind p) clear;
            away = λ d. inr (is_behind, clear);
            entering = λ from label d. absurd (never from label d);
            stops = λ b. stops s.top.values;
          })
      of a (inr e) = subst (λ (b : Activation). IsPlacedTop g (function_at g.given.code b.func)
          (record b { at = b.at + 1; values = with_result b.values result (integer 8 (negsuc 0)) })) (sym e) (record {
            clear = λ d. clear_at g rules s reached h never (behind p) clear;
            away = λ d. inr (is_behind, clear);
            entering = λ from label d. absurd (never from label d);
            stops = λ b. stops s.top.values;
          })

      on : t.top ≡ s.top ⊎ (t.top ≡ record s.top { has_left = true })
          → IsPlacedTop g (function_of g.given t) (gives t result (integer 8 (negsuc 0))).top
      on e = of t.top e

  suspends : (c : IsCallAt Intrinsic.CoroSuspend f p) → NotEntering g rules s reached h → (result : Option ℕ)
      → call_result c.instr ≡ result
      → (of_save : Operand) → StaysPlaced g (suspend s result of_save)
  suspends c never result er Operand.None =
      save_placed p p result (integer 8 (negsuc 0)) (clear_at_suspend c never)
      (λ t et eb k. suspended c never result er t (inr et) eb k)
  suspends c never result er _ = suspended c never result er s (inl refl) refl h.instances

  -- ---- branches

  -- the label of an edge that the activation takes
  module _ (t : Terminator) (stands : here ≡ AtTerm t) (label : ℕ) (b : BranchesTo label here)
      (acts : action_of (hooked_context hooks s) (work_of s) here ≡ GoTo label) where
    q : Point
    q = entry_point f label

    no_alloca : NotEntering g rules s reached h
    no_alloca = no_entering g rules s reached h (AtTerm t) stands (λ i e a. absurd (cc))

    not_behind_entry : IsBehind f (entry_point f label) → ⊥
    not_behind_entry x = let k : x.suspend.at + 1 ≡ 0 = sym (ap (λ (z : Point). z.at) x.next) in absurd
        (omega (arith, k))

    -- right behind a suspend it comes to the end
    stopped : IsBehind f p → IsAway f (entry_point f label)
    stopped x =
        let stop : HasStop g.given.code f x.suspend = r.stops x.suspend x.is_suspend in
        let at : here ≡ AtTerm (Terminator.Switch stop.arg stop.default stop.cases) = ap
        (λ (z : Point). fetch f z.block z.at) x.next ∙ stop.stands in
        let taken : switch g.given.code (arg_value g.given.code s.top.values stop.arg) stop.default stop.cases ≡ GoTo
        label =
        ap (action_of (hooked_context hooks s) (work_of s)) (sym at) ∙ acts in
        let end : position_of f label ≡ end_block f = h.top.stops x stop.arg stop.default stop.cases label at taken in
        let same : entry_point f stop.default ≡ entry_point f label = (λ j. record {
          block = (stop.end
              ∙ sym end) j;
          at = 0;
        }) in
        AtEnd x.suspend x.is_suspend end refl (subst (IsCallAt Intrinsic.CoroEnd f) same stop.is_end)

    clear_there : s.top.has_left ≡ false → IsClear f (entry_point f label)
    clear_there e = branch_clear g.given.code f r p t stands label b (clear_here g rules s reached h no_alloca e)

    entered : (a : Activation) → a.func ≡ s.top.func → a.mode ≡ s.top.mode → point_in a ≡ entry_point f label
        → (a.has_left ≡ false → IsClear f (entry_point f label)) → (a.has_left ≡ true
        → IsAway f (entry_point f label)) → IsPlacedTop g (function_at g.given.code a.func) a
    entered a ef em ep clear away = subst (λ (n : ℕ). IsPlacedTop g (function_at g.given.code n) a) (sym ef) (record {
      clear = λ e. subst (IsClear f) (sym (spot_here f a.mode (point_in a) never))
          (subst (IsClear f) (sym ep) (clear e));
      away = λ e. inl (subst (IsAway f) (sym ep) (away e));
      entering = λ from label' e. absurd (never from label' e);
      stops = λ x. absurd (not_behind_entry (subst (IsBehind f) ep x));
    })
      where
        never : (from label' : ℕ) → a.mode ≡ Mode.Entering from label' → ⊥
        never from label' e = no_alloca from label' (sym em ∙ e)

    branch_placed : StaysPlaced g (go_to g.given s label)
    branch_placed = on (left_windows g.given s label) refl
      where
        test : Window → Bool
        test = leaves (point_of s) (entry_point f label)

        stays : left_windows g.given s label ≡ [] → (k u : Point) → IsPair f k u
            → (w : Window) × (w.save ≡ k) × (w.suspend ≡ u) × IsWindow f w × (leaves p (entry_point f label) w ≡ false)
        stays e k u pair =
            let w = pair_window g.given rules s.top.func k u pair in (
              w.1,
              w.3,
              w.4,
              each_is (IsWindow f) (own_facts g.given s).windows
                  (rules.windows s.top.func) w.0 w.1 w.2,
              none_kept test (own_facts g.given s).windows e w.0 w.1 w.2,
            )

        away : left_windows g.given s label ≡ [] → s.top.has_left ≡ true → IsAway f (entry_point f label)
        away e left = by (h.top.away left)
          where
            by : IsAway f p ⊎ (IsBehind f p × IsClear f p) → IsAway f (entry_point f label)
            by (inl a) = branch_away g.given.code f r p t stands label b (stays e) a
            by (inr x) = stopped x.0

        left : (w : Window) (ws : List Window) → left_windows g.given s label ≡ w ∷ ws
            → IsClear f (entry_point f label)
        left w ws e = by s.top.has_left refl
          where
            kept : (k : ℕ) × (slice_get (own_facts g.given s).windows k ≡ Some w) × (test w ≡ true)
            kept = first_kept test (own_facts g.given s).windows w ws e

            of : IsAway f p ⊎ (IsBehind f p × IsClear f p) → IsClear f (entry_point f label)
            of (inl a) = branch_left g.given.code f r p t stands label b w
                (window_pair g.given rules s.top.func kept.0 w kept.1)
                (each_is (IsWindow f) (own_facts g.given s).windows
                (rules.windows s.top.func) kept.0 w kept.1) kept.2 a
            of (inr x) = branch_clear g.given.code f r p t stands label b x.1

            by : (c : Bool) → s.top.has_left ≡ c → IsClear f (entry_point f label)
            by false k = clear_there k
            by true k = of (h.top.away k)

        on : (windows : List Window) → left_windows g.given s label ≡ windows
            → StaysPlaced g (branch_leaving g.given s label windows)
        on [] e = record {
          top = entered _ refl refl refl clear_there (away e);
          below = h.below;
          instances = h.instances;
        }
        on (w ∷ ws) e = then_placed g (found Cause.State (own_instance s)) _
            (λ x ex. ok_placed g _ Cause.State _ (record {
              top = entered _ refl refl refl (λ k. left w ws e) (λ k. absurd (cc));
              below = h.below;
              instances = placed_set g.given s.instances x.0 (record x.1 { status = Status.Running }) h.instances tt;
            }))

  -- ---- the coro intrinsics

  module _ (result : Option ℕ) (must_tail : Bool) (ty : Option Ty) (args : List Arg) where
    abbrev calls : Intrinsic → Instr
    calls i = Instr.Call result must_tail ty (Callee.Intrinsic i) args

    no_alloca_call : (i : Intrinsic) → here ≡ AtInstr (Instr.Call result must_tail ty (Callee.Intrinsic i) args)
        → NotEntering g rules s reached h
    no_alloca_call i e = no_entering g rules s reached h _ e (λ j k a. let same : calls i ≡ j = cc in
        let d : is_alloca (calls i) ≡ true = subst (λ (z : Instr). is_alloca z ≡ true) (sym same) a in absurd (cc))

    other_next : (i : Intrinsic) → same_intrinsic Intrinsic.CoroSave i ≡ false
        → same_intrinsic Intrinsic.CoroSuspend i ≡ false → same_intrinsic Intrinsic.CoroEnd i ≡ false
        → here ≡ AtInstr (Instr.Call result must_tail ty (Callee.Intrinsic i) args) → IsNextPlaced g s
    other_next i a b c e = plain_next g rules s reached h (record {
      instr = _;
      stands = e;
      no_save = a;
      no_suspend =
          b;
      no_end = c;
      no_alloca = refl;
    })

    resumes : (n : IsNextPlaced g s) (i : ℕ) (x : Instance) (at : Point) (vs : Env) (values : Env)
        → slice_get s.instances i ≡ Some x → x.status ≡ Status.Suspended at vs
        → (label : ℕ) → BranchesTo label (fetch (function_at g.given.code x.coroutine) at.block (at.at + 1))
        → IsPlacedState g (hooks.go_on s i x at values label)
    resumes n i x at vs values e es label b =
        let fx : Function = function_at g.given.code x.coroutine in
        let sound = suspended_call g s reached i x at vs e es in
        let stop : HasStop g.given.code fx at = (rules.each x.coroutine).stops at sound in
        keeps.go_on s n i x at values label e
        (resumed_clear g.given.code fx (rules.each x.coroutine) at sound
        (suspended_clear g s.instances i x at vs h.instances e es) _ stop.stands label b)

    coro_placed : (i : Intrinsic) (vs : List Value) → here ≡ AtInstr
        (Instr.Call result must_tail ty (Callee.Intrinsic i) args)
        → StaysPlaced g (hooked_coro hooks s i args vs result)
    coro_placed Intrinsic.CoroId vs e = gives_placed g s (other_next Intrinsic.CoroId refl refl refl e) None
        Value.Poison
    coro_placed Intrinsic.CoroSizeI32 vs e = gives_placed g s
        (other_next Intrinsic.CoroSizeI32 refl refl refl e) result _
    coro_placed Intrinsic.CoroSizeI64 vs e = gives_placed g s
        (other_next Intrinsic.CoroSizeI64 refl refl refl e) result _
    coro_placed Intrinsic.CoroAlignI32 vs e = gives_placed g s
        (other_next Intrinsic.CoroAlignI32 refl refl refl e) result _
    coro_placed Intrinsic.CoroAlignI64 vs e = gives_placed g s
        (other_next Intrinsic.CoroAlignI64 refl refl refl e) result _
    coro_placed Intrinsic.CoroAlloc vs e = gives_placed g s (other_next Intrinsic.CoroAlloc refl refl refl e) result _
    coro_placed Intrinsic.CoroFrame vs e = gives_placed g s (other_next Intrinsic.CoroFrame refl refl refl e) result _
    coro_placed Intrinsic.LifetimeStart vs e = gives_placed g s
        (other_next Intrinsic.LifetimeStart refl refl refl e) None Value.Poison
    coro_placed Intrinsic.LifetimeEnd vs e = gives_placed g s
        (other_next Intrinsic.LifetimeEnd refl refl refl e) None Value.Poison
    coro_placed Intrinsic.MemcpyI64 vs e = gives_placed g s (other_next Intrinsic.MemcpyI64 refl refl refl e) None
        Value.Poison
    coro_placed Intrinsic.MemcpyI32 vs e = gives_placed g s (other_next Intrinsic.MemcpyI32 refl refl refl e) None
        Value.Poison
    coro_placed Intrinsic.CoroBegin vs e = keeps.start s result (nth vs 1)
        (other_next Intrinsic.CoroBegin refl refl refl e)
    coro_placed Intrinsic.CoroFree vs e =
        let n = other_next Intrinsic.CoroFree refl refl refl e in
        gives_placed g (release s) (with_instances g s (release s) n (release_top s (own_instance s))
        (release_below s (own_instance s))
        (change_placed g.given s (λ x. record x { released = true }) (own_instance s) h.instances
        (λ i x k. own_is s i x k) (λ x k. k))) result _
    coro_placed Intrinsic.CoroSave vs e =
        let c : IsCallAt Intrinsic.CoroSave f p = record { instr = _; stands = e; is = refl } in
        then_placed g (found Cause.State (suspend_of f p)) _
        (λ u eu. saves c (no_alloca_call Intrinsic.CoroSave e) u (found_is Cause.State (suspend_of f p) u eu))
    coro_placed Intrinsic.CoroSuspend vs e =
        suspends (record { instr = calls Intrinsic.CoroSuspend; stands = e; is = refl })
        (no_alloca_call Intrinsic.CoroSuspend e) result refl (operand_at args 0)
    coro_placed Intrinsic.CoroEnd vs e = on s.top.has_left
      where
        n : IsNextPlaced g s
        n = end_next g rules s reached h (record { instr = calls Intrinsic.CoroEnd; stands = e; is = refl })
            (no_alloca_call Intrinsic.CoroEnd e)

        closed : IsPlacedState g (hooks.close s)
        closed = keeps.close s h

        on : (b : Bool) → StaysPlaced g (after_end (if b then s else hooks.close s) result s.top.mode)
        on true = end_placed g s h n result s.top.mode
        on false = end_placed g (hooks.close s) closed (with_instances g s (hooks.close s) n (keeps.closed s).0
            (keeps.closed s).1 closed.instances) result s.top.mode
    coro_placed Intrinsic.CoroResume vs e =
        let n = other_next Intrinsic.CoroResume refl refl refl e in
        sleeper_placed g s (nth vs 0) _ (λ i x at us there es. ok_placed g _ Cause.State _
        (resumes n i x at us us there es _ (own_branch g rules s reached i x at us there es).0))
    coro_placed Intrinsic.CoroDestroy vs e =
        let n = other_next Intrinsic.CoroDestroy refl refl refl e in
        sleeper_placed g s (nth vs 0) _ (λ i x at us there es. resumes n i x at us us there es _
        (own_branch g rules s reached i x at us there es).1)
    coro_placed Intrinsic.CoroDone vs e =
        let n = other_next Intrinsic.CoroDone refl refl refl e in
        sleeper_placed g s (nth vs 0) _ (λ i x at us there es. ok_placed g _ Cause.State _
        (gives_placed g s n result _))
    coro_placed Intrinsic.CoroPromise vs e =
        let n = other_next Intrinsic.CoroPromise refl refl refl e in
        then_placed g (hooks.promised s (nth vs 0) (operand_at args 2)) _ (λ v ev. gives_placed g s n result v)

  -- ---- actions

  module _ (c : Context) (i : Instr) (e : here ≡ AtInstr i) where
    -- an instruction whose action is none of a coro intrinsic is no save, suspend or end
    acts_next : (a : Action) → action_of c (work_of s) (AtInstr i) ≡ a → (IsCoro a → ⊥)
        → NotEntering g rules s reached h → IsNextPlaced g s
    acts_next a ea never = ordinary_next g rules s reached h i e (not_call Intrinsic.CoroSave save_acts)
        (not_call Intrinsic.CoroSuspend suspend_acts) (not_call Intrinsic.CoroEnd end_acts)
      where
        not_call : (x : Intrinsic) → ((c : Context) (w : Work) (j : Instr) → is_call_of x j ≡ true
            → IsCoro (action_of c w (AtInstr j))) → is_call_of x i ≡ false
        not_call x acts = on (is_call_of x i) refl
          where
            on : (b : Bool) → is_call_of x i ≡ b → b ≡ false
            on true d = absurd (never (subst IsCoro ea (acts c (work_of s) i d)))
            on false d = refl

  -- an alloca's slot comes to an activation that may be entering a label
  slot_behind : (i : Instr) → here ≡ AtInstr i → is_alloca i ≡ true → (w : Work) → IsBehindAlloca g (settled s w)
  slot_behind i e a w = record {
    clear = λ left. on s.top.mode refl (h.top.clear left);
    away = λ left. away_next g.given.code f r p i e ns nu ne (away_here g rules s reached h i e left);
    entering = λ from label k. let x = h.top.entering from label k in (x.may, x.stays);
    fresh = not_fresh g rules s reached h nu;
    below = h.below;
    instances = h.instances;
  }
    where
      no_call_of : (x : Intrinsic) → IsCallAt x f p → ⊥
      no_call_of x c = let same : c.instr ≡ i = instr_once f p c.instr i c.stands e in
          let d : is_alloca c.instr ≡ true = subst (λ (j : Instr). is_alloca j ≡ true)
          (sym same) a in alloca_no_call x c.instr d c.is

      ns : IsCallAt Intrinsic.CoroSave f p → ⊥
      ns = no_call_of Intrinsic.CoroSave

      nu : IsCallAt Intrinsic.CoroSuspend f p → ⊥
      nu = no_call_of Intrinsic.CoroSuspend

      ne : IsCallAt Intrinsic.CoroEnd f p → ⊥
      ne = no_call_of Intrinsic.CoroEnd

      edge : has_point (nexts f p) (behind p) ≡ true
      edge = straight f p i e

      on : (mode : Mode) → s.top.mode ≡ mode → IsClear f (spot_by f s.top.mode p)
          → IsClear f (spot_by f s.top.mode (behind p))
      on mode em c = subst (λ (m : Mode). IsClear f (spot_by f m (behind p))) (sym em)
          (by mode (subst (λ (m : Mode). IsClear f (spot_by f m p)) em c))
        where
          by : (m : Mode) → IsClear f (spot_by f m p) → IsClear f (spot_by f m (behind p))
          by (Mode.Entering from label) k = k
          by Mode.Plain k = clear_next f p (behind p) edge ns k
          by Mode.Ramp k = clear_next f p (behind p) edge ns k
          by Mode.Resumed k = clear_next f p (behind p) edge ns k
          by (Mode.GivenRamp frame) k = clear_next f p (behind p) edge ns k

  abbrev context : Context
  context = hooked_context hooks s

  -- one that is entering a label is at an alloca
  entering_placed : (i : Instr) → here ≡ AtInstr i → is_alloca i ≡ true → (a : Action) → IsSlot a
      → StaysPlaced g (hooked_act hooks s a)
  entering_placed i e a _ (Slots w slot) = keeps.place (settled s w) slot (slot_behind i e a w)
  entering_placed i e a _ (IsStuck cause) = tt

  unentered : (i : Instr) → here ≡ AtInstr i → is_alloca i ≡ false → NotEntering g rules s reached h
  unentered i e never = no_entering g rules s reached h (AtInstr i) e
      (λ j k a. let same : i ≡ j = cc in let d : true ≡ false = sym a ∙ ap is_alloca (sym same) ∙ never in absurd (cc))

  act_placed : (x : Fetched) → here ≡ x → (a : Action) → action_of (hooked_context hooks s) (work_of s) x ≡ a
      → SameAction g.given.code (λ v. Unit {0}) here s.top.values s.top.values a a → ((i : Instr) → x ≡ AtInstr i
      → is_alloca i ≡ false) → StaysPlaced g (hooked_act hooks s a)
  act_placed x e (Stuck cause) ea k never = tt
  act_placed x e (Coro i args result) ea k never = coro_placed result k.1.0 k.1.1 args i _ k.1.2
  act_placed x e (Return v) ea k never = return_placed g s v h
  act_placed Nowhere e a ea k never = absurd (cc)
  act_placed (AtTerm t) e (GoTo label) ea k never = branch_placed t e label k.1
      (ap (action_of (hooked_context hooks s) (work_of s)) e ∙ ea)
  act_placed (AtTerm t) e (Done w) ea k never = absurd (term_no_instr (hooked_context hooks s) s t (Done w) ea refl)
  act_placed (AtTerm t) e (NewSlot w slot) ea k never = absurd
      (term_no_instr (hooked_context hooks s) s t (NewSlot w slot) ea refl)
  act_placed (AtTerm t) e (Enter func args result must_tail) ea k never = absurd
      (term_no_instr (hooked_context hooks s) s t (Enter func args result must_tail) ea refl)
  act_placed (AtTerm t) e (Deallocate v) ea k never = absurd
      (term_no_instr (hooked_context hooks s) s t (Deallocate v) ea refl)
  act_placed (AtInstr i) e (GoTo label) ea k never = absurd (subst (BranchesTo label) e k.1)
  act_placed (AtInstr i) e (Done w) ea k never = next_placed g s
      (acts_next context i e (Done w) ea (λ z. z) (unentered i e (never i refl))) w
  act_placed (AtInstr i) e (NewSlot w slot) ea k never = keeps.place (settled s w) slot
      (behind_any g s (acts_next context i e (NewSlot w slot) ea (λ z. z) (unentered i e (never i refl))) w
      (unentered i e (never i refl)))
  act_placed (AtInstr i) e (Enter func args result must_tail) ea k never =
      called_placed g rules s (acts_next context i e (Enter func args result must_tail) ea (λ z. z)
      (unentered i e (never i refl))) (called g.given.code func args result
      (mode_of (function_at g.given.code func)))
      refl refl refl (λ from label d. not_entering (function_at g.given.code func).coroutine from label d)
  act_placed (AtInstr i) e (Deallocate v) ea k never =
      let n = acts_next context i e (Deallocate v) ea (λ z. z) (unentered i e (never i refl)) in
      let t : State = if_let_go s (instance_at s.instances v) in
      then_placed g (deallocated t.world.memory v) _ (λ memory d. next_placed g t
      (let_go_next g s (instance_at s.instances v) (λ j x d. at_is s.instances v j x d) h.instances n)
      (record { world = _; values = _ }))

  acts_placed : StaysPlaced g (hooked_act hooks s (action_of (hooked_context hooks s) (work_of s) here))
  acts_placed = on here refl
    where
      same : SameAction g.given.code (λ v. Unit {0}) here s.top.values s.top.values
          (action_of (hooked_context hooks s) (work_of s) here) (action_of (hooked_context hooks s) (work_of s) here)
      same = action_same (hooked_context hooks s) s.world s.top.values s.top.values (λ v. Unit {0}) (λ v. Unit {0})
          (same_all _ s.top.values) here (λ v t. tt) (λ v n k. tt)

      by : (x : Fetched) → here ≡ x → ((i : Instr) → x ≡ AtInstr i → is_alloca i ≡ false)
          → StaysPlaced g (hooked_act hooks s (action_of (hooked_context hooks s) (work_of s) here))
      by x e never = act_placed x e (action_of (hooked_context hooks s) (work_of s) here)
          (ap (action_of (hooked_context hooks s) (work_of s)) (sym e)) same never

      alloca_or_not : (i : Instr) → here ≡ AtInstr i → (b : Bool) → is_alloca i ≡ b
          → StaysPlaced g (hooked_act hooks s (action_of (hooked_context hooks s) (work_of s) here))
      alloca_or_not i e true a = entering_placed i e a _ (subst IsSlot
          (ap (action_of (hooked_context hooks s) (work_of s)) (sym e))
          (alloca_acts (hooked_context hooks s) (work_of s) i a))
      alloca_or_not i e false a = by (AtInstr i) e (λ j k. let is : i ≡ j = cc in ap is_alloca (sym is) ∙ a)

      on : (x : Fetched) → here ≡ x → StaysPlaced g (hooked_act hooks s
          (action_of (hooked_context hooks s) (work_of s) here))
      on Nowhere e = by Nowhere e (λ i k. absurd (cc))
      on (AtTerm t) e = by (AtTerm t) e (λ i k. absurd (cc))
      on (AtInstr i) e = alloca_or_not i e (is_alloca i) refl

  goes_placed : StaysPlaced g (hooked_next hooks s here)
  goes_placed = on (hooks.is_idle s here) refl (hooks.given_call s here) refl
    where
      on : (b : Bool) → hooks.is_idle s here ≡ b → (o : Option (Result State Cause)) → hooks.given_call s here ≡ o
          → StaysPlaced g (if b then Ok (next s) else unwrap_or o
          (hooked_act hooks s (action_of (hooked_context hooks s) (work_of s) here)))
      on true e o k = next_placed g s (plain_next g rules s reached h (keeps.idle s here e)) (work_of s)
      on false e None k = acts_placed
      on false e (Some x) k = keeps.call s here x (plain_next g rules s reached h (keeps.called s here x k)) k

  or_placed : (x : Result State Cause) → StaysPlaced g x → IsPlacedState g (or_undefined g.given s x)
  or_placed (Err cause) k = record { top = h.top; below = h.below; instances = h.instances }
  or_placed (Ok t) k = k

  advance_placed : (o : Outcome) → IsPlacedState g (hooked_advance hooks s o)
  advance_placed Outcome.Running = or_placed (hooked_next hooks s here) goes_placed
  advance_placed (Outcome.Returned v) = h
  advance_placed (Outcome.Undefined cause place) = h

  pub step_placed : IsPlacedState g (step_of hooks s)
  step_placed = advance_placed s.outcome

-- ---- runs

pub first_placed : (g : Hooks) → KeepsAllPlaceRules g.given → (entry : ℕ) (args : List Word)
    → IsPlacedState g (first_state g.given.code entry args)
first_placed g rules entry args = record {
  top = record {
    clear = λ e. (rules.each entry).entry;
    away = λ e. absurd (cc);
    entering = λ from label e. absurd (cc);
    stops = λ b. let k : b.suspend.at + 1 ≡ 0 = sym (ap (λ (z : Point). z.at) b.next) in absurd (omega (arith, k));
  };
  below = tt;
  instances = tt;
}

steps_placed : (hooks : Hooks) → AllHaveSwitches hooks.given.code → KeepsReached hooks
    → KeepsAllPlaceRules hooks.given → KeepsPlaced hooks → (n : ℕ) (s : State)
    → IsReachedState hooks.given s → IsPlacedState hooks s → IsPlacedState hooks (iterate (step_of hooks) n s)
steps_placed hooks ok reaches rules keeps zero s r h = h
steps_placed hooks ok reaches rules keeps (suc n) s r h =
    steps_placed hooks ok reaches rules keeps n (step_of hooks s) (step_stays hooks ok reaches s r)
    (step_placed hooks rules keeps s r h)

pub states_placed : (hooks : Hooks) → AllHaveSwitches hooks.given.code → KeepsReached hooks
    → KeepsAllPlaceRules hooks.given → KeepsPlaced hooks
    → (entry : ℕ) (args : List Word) (n : ℕ) → IsPlacedState hooks (hooked_state_at hooks entry args n)
states_placed hooks ok reaches rules keeps entry args n =
    steps_placed hooks ok reaches rules keeps n (first_state hooks.given.code entry args)
    (first_reached hooks.given entry args) (first_placed hooks rules entry args)

-- ---- what it says of windows

pub left_at : (h : Hooks) (s : State) → IsPlacedState h s → s.top.has_left ≡ true
    → IsLeftAt (function_of h.given s) (point_in s.top)
left_at h s k e = on (k.top.away e)
  where
    f : Function
    f = function_of h.given s

    p : Point
    p = point_in s.top

    by_suspend : (s : Point) → IsCallAt Intrinsic.CoroSuspend f s → IsLeftBy f s p → IsLeftAt f p
    by_suspend s c by = record { suspend = s; is_call = c; by = by }

    waits : (w : IsWaiting f p) → (p ≡ w.suspend) ⊎ IsInWindow f w.save w.suspend p → IsLeftAt f p
    waits w (inl e) = by_suspend w.suspend (pair_suspend f w.save w.suspend w.pair) (left.AtSuspend e)
    waits w (inr v) = by_suspend w.suspend (pair_suspend f w.save w.suspend w.pair)
        (left.Between w.save w.pair.is_save w.pair.takes v)

    on : IsAway f p ⊎ (IsBehind f p × IsClear f p) → IsLeftAt f p
    on (inl (Waits w)) = waits w w.within
    on (inl (AtEnd s c b z e)) = by_suspend s c (left.AtEnd b z)
    on (inl (Behind s c a)) = by_suspend s c (left.Behind a)
    on (inr (b, c)) = by_suspend b.suspend b.is_suspend (left.AtSwitch b.next)

pub no_window : (h : Hooks) (s : State) → IsPlacedState h s → s.top.has_left ≡ false → ((from label : ℕ)
    → s.top.mode ≡ Mode.Entering from label → ⊥)
    → (k u : Point) → IsPair (function_of h.given s) k u → IsInWindow (function_of h.given s) k u (point_in s.top) → ⊥
no_window h s p e never k u pair w =
    subst (IsClear (function_of h.given s)) (spot_here (function_of h.given s) s.top.mode (point_in s.top) never)
    (p.top.clear e) k u pair (window_comes (function_of h.given s) k u (point_in s.top) w)
