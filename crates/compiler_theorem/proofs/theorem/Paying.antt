-- Prices of a run of an accepted source, in which a resume hands on values, are at most 4 times the factor of frames for
-- each step.
use Rattle.std.proofs.Common.{◌≡◌, inl, ℕ, ◌+◌, ◌*◌, ◌≤◌, Bool, true, false, refl, sym, ap, ◌∙◌, subst, arith}
use Rattle.std.specs.Prelude.{[], None, Option, Some, slice_get, unwrap_or, ◌&&◌, if◌then◌else◌}
use Rattle.compiler_theorem.proofs.theorem.Affording.{MayBePaid, steps_paid}
use Rattle.compiler_theorem.proofs.theorem.Asked.{asked_kept}
use Rattle.compiler_theorem.proofs.theorem.Framing.{plain}
use Rattle.compiler_theorem.proofs.theorem.Paid.{numbers}
use Rattle.compiler_theorem.proofs.theorem.Standing.{IsStanding}
use Rattle.compiler_theorem.specs.theorem.Anew.{Anew, IsAnewOf}
use Rattle.compiler_theorem.specs.theorem.Asked.{asking}
use Rattle.compiler_theorem.specs.theorem.Built.{building}
use Rattle.compiler_theorem.specs.theorem.Entries.{IsEntryCall, Run}
use Rattle.compiler_theorem.specs.theorem.Lowered.{HasFewBytes, IsLowered, Lowered, early, edged, kept_run, price_kept, sizes_of}
use Rattle.compiler_theorem.specs.theorem.Theorem.{prices_of}
use Rattle.compiler.specs.ir_base.declared.outcome.Outcome.{Outcome}
use Rattle.compiler.specs.ir_model.Names.{function_at, no_function}
use Rattle.compiler.specs.ir_model.declared.module.Function.{Function}
use Rattle.compiler.specs.ir_model.declared.operand.Intrinsic.{Intrinsic}
use Rattle.compiler.specs.ir_paths.declared.point.Point.{Point}
use Rattle.pass_frames_meaning.specs.Setting.{KeepsAll}
use Rattle.pass_frames_prices.specs.FramePrices.{credit, frames_factor, full_price, left_at}
use Rattle.pass_frames_prices.specs.Numbers.{most_names}
use Rattle.pass_frames_meaning.specs.pass_frames_proof.Places.{is_return}
use Rattle.pass_frames_meaning.specs.pass_frames_proof.Related.{Building, is_coroutine}
use Rattle.compiler.specs.pass_kept_proof.Kept.{continue_keeping}
use Rattle.compiler.specs.pass_kept_proof.SuspendRules.{IsCallAt}
use Rattle.run_accepted.proofs.Accepted.{edged_switches}
use Rattle.run_accepted.proofs.Plain.{no_call}
use Rattle.compiler.proofs.pass_proofs.kept.sources.Names.{suspend_inside}
use Rattle.compiler.proofs.run_agreement.Costs.{cost_below, cost_paid}
use Rattle.compiler.specs.run_agreement.Costs.{cost_at, cost_from}
use Rattle.compiler.specs.run_agreement.Factor.{most_operands_of_functions, most_phis_of_functions}
use Rattle.compiler.specs.run_agreement.Machines.{IsFine, IsRunning, Machine, at}
use Rattle.pass_frames_meaning.proofs.run_hooks.Keeping.{kept_keeps}
use Rattle.pass_frames_meaning.proofs.run_hooks.Reaching.{states_reached, step_stays}
use Rattle.pass_frames_meaning.proofs.run_hooks.Steps.{source_step}
use Rattle.pass_frames_meaning.specs.run_hooks.Meanings.{kept_hooks}
use Rattle.pass_frames_meaning.specs.run_hooks.Reached.{AllHaveSwitches, IsReachedState}
use Rattle.compiler.specs.run_source.Source.{Continues, advance_by, first_state, given, step_by}
use Rattle.compiler.specs.run_source.declared.state.State.{State}
use Rattle.compiler.specs.run_source_tables.Given.{Given}

at_start : (full n cost left : ℕ) → left ≡ 0 → cost ≤ n + left → n ≤ full → cost ≤ full
at_start full n cost left e a c = omega (arith, e, a, c)

-- a run that is over stays as it is
stays_over : (k : Given) (go : Continues) (s : State) → (IsRunning s.outcome → ⊥) → step_by k go s ≡ s
stays_over k go s over = on s.outcome refl
  where
    on : (o : Outcome) → s.outcome ≡ o → advance_by k go s o ≡ s
    on Outcome.Running e = absurd (over (subst IsRunning (sym e) tt))
    on (Outcome.Returned v) e = refl
    on (Outcome.Undefined cause place) e = refl

module _ (l : Lowered) (low : IsLowered l) (few : HasFewBytes l) (a : Anew) (anew : IsAnewOf (early l) a) (r : Run)
    (call : IsEntryCall l.source r) where
  abbrev b : Building
  b = building l low.is_framed []

  abbrev k : Given
  k = given (edged l) (sizes_of l) r.answers

  abbrev names : ℕ
  names = most_names l.source.functions

  abbrev operands : ℕ
  operands = most_operands_of_functions l.source.functions + most_phis_of_functions l.source.functions

  abbrev go : Continues
  go = continue_keeping k a.keep

  all : KeepsAll (asking l low a r)
  all = asked_kept l low few a anew r

  -- a suspend stands in a coroutine (K1)
  suspends : (func : ℕ) (p : Point) → IsCallAt Intrinsic.CoroSuspend (function_at (edged l) func) p
      → is_coroutine b func ≡ true
  suspends func p c = on (is_coroutine b func) refl
    where
      there : (o : Option Function) → slice_get (edged l).functions func ≡ o
          → IsCallAt Intrinsic.CoroSuspend (unwrap_or o no_function) p → (unwrap_or o no_function).coroutine ≡ false → ⊥
      there None e d outside = absurd (cc)
      there (Some f) e d outside = no_call (edged l) func f (all.rules func f e) outside Intrinsic.CoroSuspend suspend_inside p d

      on : (t : Bool) → is_coroutine b func ≡ t → t ≡ true
      on true e = refl
      on false e =
          absurd (there (slice_get (edged l).functions func) refl c
          (ap (λ (f : Function). f.coroutine) (all.given.others func e) ∙ e))

  may : MayBePaid b k names operands
  may = record {
    framings = all.given.framings;
    coroutines = all.given.coroutines;
    returns = all.returns;
    within = numbers l low a (record r { answers = [] });
    suspends = suspends;
  }

  switches : AllHaveSwitches (edged l)
  switches = edged_switches l.text l.source low.source.stands low.source.accepted

  outside : is_coroutine b r.entry ≡ false
  outside = plain l low a r anew call

  abbrev Holds : State → Type 0
  Holds s = IsReachedState k s × IsStanding k r.entry s

  reached_next : (s : State) → IsReachedState k s → IsReachedState k (step_by k go s)
  reached_next s h =
      subst (IsReachedState k) (sym (source_step k go s))
      (step_stays (kept_hooks k a.keep) switches (kept_keeps k a.keep) s h)

  first_reached : IsReachedState k (first_state (edged l) r.entry r.args)
  first_reached = states_reached (kept_hooks k a.keep) switches (kept_keeps k a.keep) r.entry r.args 0

  first_stands : IsStanding k r.entry (first_state (edged l) r.entry r.args)
  first_stands = record { behind = tt; bottom = (refl, refl); over = inl refl }

  first_left : left_at b names (first_state (edged l) r.entry r.args) ≡ 0
  first_left = on (is_coroutine b r.entry) outside
    where
      on : (c : Bool) → c ≡ false → (if c && (is_return (b.framing r.entry) 0 && true) then credit names else 0) ≡ 0
      on false e = refl
      on true e = absurd (cc)

  pub runs_paid : (n : ℕ) → IsFine (at (kept_run l a r) n).outcome
      → cost_at (kept_run l a r) (price_kept l a r (prices_of l low a)) n ≤ (4 * frames_factor l.source) * n
  runs_paid n fine =
      let m : Machine State = kept_run l a r in
      let start : State = first_state (edged l) r.entry r.args in
      let full : ℕ = full_price names operands in
      let price : State → ℕ = price_kept l a r (prices_of l low a) in
      let by = cost_paid m price (λ s. full) Holds (left_at b names) (stays_over k go)
      (λ s h f. let q = steps_paid b names operands r.entry outside k a.keep a.flags may s h.0 h.1 f in
      ((reached_next s h.0, q.stands), q.few)) n start (first_reached, first_stands) fine in
      at_start (full * n) (cost_from m.step (λ s. full) n start) (cost_at m price n) (left_at b names start) first_left by
      (cost_below m.step (λ s. full) full (λ s. omega arith) n start)
