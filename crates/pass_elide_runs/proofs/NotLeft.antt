-- An activation that comes to a save, or to a suspend without a token, hasn't left.
use Rattle.std.proofs.Common.{◌≡◌, ◌+◌, ◌&&◌, ◌⊎◌, inl, inr, ℕ, Bool, true, false, None, Option, Some, refl, sym, subst}
use Rattle.std.specs.Prelude.{option_and_then, slice_get}
use Rattle.pass_elide_proof.proofs.Facts.{not_both}
use Rattle.pass_elide_proof.proofs.PlacingFacts.{by_truth}
use Rattle.pass_elide_proof.proofs.pass_proofs.pass_kept_proof.Rules.{suspend_is_suspend, where_is}
use Rattle.pass_elide_proof.specs.pass_proofs.ir_model.Names.{is_local, same_intrinsic}
use Rattle.pass_elide_proof.specs.pass_proofs.ir_model.declared.instr.Instr.{Instr}
use Rattle.pass_elide_proof.specs.pass_proofs.ir_model.declared.instr.Terminator.{Terminator}
use Rattle.pass_elide_proof.specs.pass_proofs.ir_model.declared.module.Function.{Function}
use Rattle.pass_elide_proof.specs.pass_proofs.ir_model.declared.operand.Callee.{Callee}
use Rattle.pass_elide_proof.specs.pass_proofs.ir_model.declared.operand.Intrinsic.{Intrinsic}
use Rattle.pass_elide_proof.specs.pass_proofs.ir_paths.Windows.{IsInWindow, call_operand, call_result, instr_at, is_call_of, is_suspend_of, points_where, suspend_of}
use Rattle.pass_elide_proof.specs.pass_proofs.ir_paths.declared.point.Point.{Point}
use Rattle.pass_elide_proof.specs.pass_proofs.pass_kept_proof.SuspendRules.{IsCallAt}
use Rattle.pass_elide_proof.specs.pass_proofs.rule_windows.Sets.{IsAfterEnd}
use Rattle.pass_elide_proof.specs.pass_proofs.run_source.State.{function_of}
use Rattle.pass_elide_proof.specs.pass_proofs.run_source.declared.state.State.{State}
use Rattle.pass_elide_proof.specs.pass_proofs.run_step.Step.{AtInstr, AtTerm, Fetched, fetch}
use Rattle.run_hooks.specs.Away.{IsAway, IsBehind, IsClear, IsPlacedState, IsWaiting, KeepsPlaceRules, point_in}
use Rattle.run_hooks.specs.Hooks.{Hooks}

-- ---- calls of different intrinsics

save_end : (k : Intrinsic) → same_intrinsic Intrinsic.CoroSave k ≡ true → same_intrinsic Intrinsic.CoroEnd k ≡ true → ⊥
save_end Intrinsic.CoroSave a b = absurd (cc)
save_end _ a b = absurd (cc)

save_suspend : (k : Intrinsic) → same_intrinsic Intrinsic.CoroSave k ≡ true
    → same_intrinsic Intrinsic.CoroSuspend k ≡ true → ⊥
save_suspend Intrinsic.CoroSave a b = absurd (cc)
save_suspend _ a b = absurd (cc)

suspend_end : (k : Intrinsic) → same_intrinsic Intrinsic.CoroSuspend k ≡ true
    → same_intrinsic Intrinsic.CoroEnd k ≡ true → ⊥
suspend_end Intrinsic.CoroSuspend a b = absurd (cc)
suspend_end _ a b = absurd (cc)

same_instr : (x : Fetched) (i j : Instr) → x ≡ AtInstr i → x ≡ AtInstr j → i ≡ j
same_instr x i j a b = cc

-- none stands where one of another stands
not_two : (f : Function) (i j : Intrinsic) (p : Point) → IsCallAt i f p → IsCallAt j f p
    → ((k : Intrinsic) → same_intrinsic i k ≡ true → same_intrinsic j k ≡ true → ⊥) → ⊥
not_two f i j p c d apart =
    by c.instr c.is
    (subst (λ (x : Instr). is_call_of j x ≡ true)
    (same_instr (fetch f p.block p.at) d.instr c.instr d.stands c.stands) d.is)
  where
    by : (x : Instr) → is_call_of i x ≡ true → is_call_of j x ≡ true → ⊥
    by (Instr.Call result must_tail ty (Callee.Intrinsic k) args) a b = apart k a b
    by _ a b = absurd (cc)

-- ---- right behind a suspend

no_switch : (x : Fetched) (t : Terminator) (i : Instr) → x ≡ AtTerm t → x ≡ AtInstr i → ⊥
no_switch x t i a b = absurd (cc)

-- ---- tokens

right_of : (a b : Bool) → (a && b) ≡ true → b ≡ true
right_of true b h = h
right_of false b h = absurd (cc)

-- the suspend of a save takes a token
takes_token : (f : Function) (k s : Point) (i : Instr) → suspend_of f k ≡ Some s → fetch f s.block s.at ≡ AtInstr i
    → ((v : ℕ) → is_local v (call_operand i 0) ≡ false) → ⊥
takes_token f k s i takes there none = on (option_and_then call_result (instr_at f k)) takes
  where
    on : (o : Option ℕ) → slice_get (points_where (is_suspend_of o) f) 0 ≡ Some s → ⊥
    on None h = let r = where_is (is_suspend_of None) f s h in absurd (not_both false r.2 refl)
    on (Some save) h =
        let r = where_is (is_suspend_of (Some save)) f s h in
        not_both (is_local save (call_operand i 0))
        (subst (λ (x : Instr). is_local save (call_operand x 0) ≡ true)
        (same_instr (fetch f s.block s.at) r.0 i r.1 there)
        (right_of (is_call_of Intrinsic.CoroSuspend r.0) (is_local save (call_operand r.0 0)) r.2)) (none save)

-- ---- an activation that has left

module _ (h : Hooks) (s : State) (placed : IsPlacedState h s)
    (rules : KeepsPlaceRules h.given.code (function_of h.given s)) where
  abbrev f : Function
  f = function_of h.given s

  abbrev here : Point
  here = point_in s.top

  -- it doesn't stand behind a suspend
  not_behind : (i : Instr) → fetch f here.block here.at ≡ AtInstr i → IsBehind f here → ⊥
  not_behind i there b =
      let stop = rules.stops b.suspend b.is_suspend in
      no_switch (fetch f b.suspend.block (b.suspend.at + 1)) (Terminator.Switch stop.arg stop.default stop.cases) i
      stop.stands (subst (λ (q : Point). fetch f q.block q.at ≡ AtInstr i) b.next there)

  module _ (once : IsAfterEnd f here → ⊥) where
    pub save_stays : IsCallAt Intrinsic.CoroSave f here → s.top.has_left ≡ false
    save_stays c = by_truth s.top.has_left (λ left. absurd (on (placed.top.away left))) (λ stays. stays)
      where
        waits : (w : IsWaiting f here) → (here ≡ w.suspend) ⊎ IsInWindow f w.save w.suspend here → ⊥
        waits w (inl same) =
            not_two f Intrinsic.CoroSave Intrinsic.CoroSuspend here c
            (subst (IsCallAt Intrinsic.CoroSuspend f) (sym same) (suspend_is_suspend f w.save w.suspend w.pair.takes))
            save_suspend
        waits w (inr within) = rules.no_save w.save w.suspend here w.pair within c

        on : IsAway f here ⊎ (IsBehind f here × IsClear f here) → ⊥
        on (inl (IsAway.Waits w)) = waits w w.within
        on (inl (IsAway.AtEnd t is block at end)) =
            not_two f Intrinsic.CoroSave Intrinsic.CoroEnd here c end save_end
        on (inl (IsAway.Behind t is after)) = once after
        on (inr b) = not_behind c.instr c.stands b.0

    -- where a suspend takes no token
    pub suspend_stays : (c : IsCallAt Intrinsic.CoroSuspend f here)
        → ((v : ℕ) → is_local v (call_operand c.instr 0) ≡ false) → s.top.has_left ≡ false
    suspend_stays c none = by_truth s.top.has_left (λ left. absurd (on (placed.top.away left))) (λ stays. stays)
      where
        waits : (w : IsWaiting f here) → (here ≡ w.suspend) ⊎ IsInWindow f w.save w.suspend here → ⊥
        waits w (inl same) =
            takes_token f w.save w.suspend c.instr w.pair.takes
            (subst (λ (q : Point). fetch f q.block q.at ≡ AtInstr c.instr) same c.stands) none
        waits w (inr within) = rules.no_suspend_in w.save w.suspend here w.pair within c

        on : IsAway f here ⊎ (IsBehind f here × IsClear f here) → ⊥
        on (inl (IsAway.Waits w)) = waits w w.within
        on (inl (IsAway.AtEnd t is block at end)) =
            not_two f Intrinsic.CoroSuspend Intrinsic.CoroEnd here c end suspend_end
        on (inl (IsAway.Behind t is after)) = once after
        on (inr b) = not_behind c.instr c.stands b.0
