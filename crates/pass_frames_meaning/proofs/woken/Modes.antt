-- What makes slots anew comes of a resume or destroy: each other step of an activation that doesn't leads to one that
-- doesn't.
use Rattle.std.proofs.Common.{◌≡◌, ◌⊎◌, inl, inr, ℕ, Bool, true, false, List, [], ◌∷◌, Option, Some, None, Result, Ok, Err, refl, sym, ap, ◌∙◌, subst, if◌then◌else◌}
use Rattle.std.specs.Prelude.{not, unwrap_or}
use Rattle.pass_frames_proof.specs.ir_base.declared.cause.Cause.{Cause}
use Rattle.pass_frames_proof.specs.ir_base.declared.outcome.Outcome.{Outcome}
use Rattle.pass_frames_proof.specs.ir_model.Names.{function_at}
use Rattle.pass_frames_proof.specs.ir_model.declared.operand.Arg.{Arg}
use Rattle.pass_frames_proof.specs.ir_model.declared.operand.Intrinsic.{Intrinsic}
use Rattle.pass_frames_proof.specs.ir_model.declared.operand.Operand.{Operand}
use Rattle.pass_frames_proof.specs.ir_paths.Windows.{destroy_label, operand_at, resume_label, suspend_of}
use Rattle.pass_frames_proof.specs.ir_paths.declared.point.Point.{Point}
use Rattle.pass_frames_proof.specs.ir_paths.declared.point.Window.{Window}
use Rattle.pass_frames_meaning.proofs.led.Names.{calm_still}
use Rattle.pass_frames_meaning.specs.Called.{IsCalm}
use Rattle.pass_frames_meaning.specs.Woken.{AreStill, KeepsModes}
use Rattle.pass_frames_proof.specs.Stepping.{IsNotEntering}
use Rattle.pass_renewed_meaning.specs.run_hooks.Hooks.{Hooks, hooked_act, hooked_advance, hooked_context, hooked_coro, hooked_next, step_of}
use Rattle.pass_frames_proof.specs.run_memory.declared.pointer.Value.{Value}
use Rattle.pass_frames_proof.specs.run_source.Source.{Sleeper, after_end, branch_leaving, change_own, deallocate, end_of, if_let_go, left_windows, let_go, may_be_freed, pop, return, returned, save_for, sleeper_at, suspend}
use Rattle.pass_frames_proof.specs.run_source.State.{function_of, instance_at, next, or_undefined, own_instance, point_of, settled, with_instance, with_left, work_of}
use Rattle.pass_frames_proof.specs.run_source.declared.state.Activation.{Activation}
use Rattle.pass_frames_proof.specs.run_source.declared.state.Instance.{Instance}
use Rattle.pass_frames_proof.specs.run_source.declared.state.Mode.{Mode}
use Rattle.pass_frames_proof.specs.run_source.declared.state.State.{State}
use Rattle.pass_frames_proof.specs.run_source.declared.state.Status.{Status}
use Rattle.pass_frames_proof.specs.run_step.Results.{and_then, found, ok_if}
use Rattle.pass_frames_proof.specs.run_step.Step.{Action, Coro, Deallocate, Done, Enter, Fetched, GoTo, NewSlot, Return, Stuck, action_of, deallocated, fetch, outcome_of}
use Rattle.pass_frames_proof.specs.run_step.Values.{arg_values, nth}

module _ (h : Hooks) (keeps : KeepsModes h) (P : State → Type 0)
    (calm : (t : State) → IsNotEntering t.top.mode → AreStill t.below → P t) where
  abbrev Stays : Result State Cause → Type 0
  Stays (Err cause) = Unit {0}
  Stays (Ok t) = P t

  then_stays : {A : Type 0} (r : Result A Cause) (f : A → Result State Cause) → ((a : A) → r ≡ Ok a → Stays (f a))
      → Stays (and_then r f)
  then_stays (Err cause) f k = tt
  then_stays (Ok a) f k = k a refl

  ok_stays : (b : Bool) (cause : Cause) (t : State) → P t → Stays (ok_if b cause t)
  ok_stays true cause t k = k
  ok_stays false cause t k = tt

  module _ (s : State) (fit : IsCalm s.top.mode)
      (c : AreStill s.below)
      (goes : (p : Value) (y : Sleeper) → sleeper_at s p ≡ Ok y → (label : ℕ)
      → (label ≡ resume_label (function_at h.given.code y.instance.coroutine) y.suspend)
      ⊎ (label ≡ destroy_label (function_at h.given.code y.instance.coroutine) y.suspend)
      → AreStill (h.go_on s y.number y.instance y.suspend y.values label).below
      → P (h.go_on s y.number y.instance y.suspend y.values label)) where
    still : IsNotEntering s.top.mode
    still = calm_still s.top.mode fit

    same_on : (t : State) → t.top.mode ≡ s.top.mode → AreStill t.below → P t
    same_on t e b = calm t (subst IsNotEntering (sym e) still) b

    same : (t : State) → t.top.mode ≡ s.top.mode → t.below ≡ s.below → P t
    same t e b = same_on t e (subst AreStill (sym b) c)

    return_stays : (t : State) (v : Option Value) → t.top.mode ≡ s.top.mode
        → AreStill t.below → Stays (return t v)
    return_stays t v e b = by t.below b
      where
        by : (below : List Activation) → AreStill below → Stays (pop (returned t) v below)
        by [] k = then_stays (outcome_of v) (λ outcome. Ok (record (returned t) { outcome = outcome }))
            (λ outcome d. calm (record (returned t) { outcome = outcome }) (subst IsNotEntering (sym e) still) b)
        by (a ∷ below) k = calm _ k.0 k.1

    after_stays : (t : State) (result : Option ℕ) (mode : Mode) → t.top.mode ≡ s.top.mode
        → AreStill t.below → Stays (after_end t result mode)
    after_stays t result Mode.Resumed e b = return_stays t None e b
    after_stays t result Mode.Plain e b = same_on _ e b
    after_stays t result Mode.Ramp e b = same_on _ e b
    after_stays t result (Mode.GivenRamp frame) e b = same_on _ e b
    after_stays t result (Mode.Entering from label) e b = same_on _ e b

    leaves_stays : (label : ℕ) (windows : List Window) → Stays (branch_leaving h.given s label windows)
    leaves_stays label [] = same _ refl refl
    leaves_stays label (w ∷ windows) = then_stays (found Cause.State (own_instance s)) _ (λ p d.
        ok_stays _ Cause.State _ (same _ refl refl))

    save_stays : (p u : Point) (f : State → Result State Cause)
        → ((t : State) → t.top.mode ≡ s.top.mode → t.below ≡ s.below → Stays (f t))
        → Stays (and_then (save_for s p u) f)
    save_stays p u f then' = on (own_instance s)
      where
        by : (q : ℕ × Instance) (b : Bool) → Stays (and_then (ok_if b Cause.State
            (with_left (with_instance s q.0 (record q.1 {
              status = Status.Suspended u s.top.values;
              last_save = Some (record { depth = Rattle.std.proofs.Common.length s.below; save = p });
            })) true)) f)
        by q false = tt
        by q true = then' _ refl refl

        on : (o : Option (ℕ × Instance)) → Stays (and_then (and_then (found Cause.State o) (λ (i, x).
            ok_if (not x.freed) Cause.State
            (with_left (with_instance s i (record x {
              status = Status.Suspended u s.top.values;
              last_save = Some (record { depth = Rattle.std.proofs.Common.length s.below; save = p });
            })) true))) f)
        on None = tt
        on (Some q) = by q (not q.1.freed)

    suspend_stays : (result : Option ℕ) (of_save : Operand) → Stays (suspend s result of_save)
    suspend_stays result Operand.None = save_stays (point_of s) (point_of s) _ (λ t e b. same _ e b)
    suspend_stays result (Operand.Local v) = same _ refl refl
    suspend_stays result (Operand.Global n) = same _ refl refl
    suspend_stays result (Operand.Number n) = same _ refl refl
    suspend_stays result Operand.True = same _ refl refl
    suspend_stays result Operand.False = same _ refl refl
    suspend_stays result Operand.Null = same _ refl refl
    suspend_stays result Operand.Poison = same _ refl refl

    end_stays : (result : Option ℕ) → Stays (end_of s h.close result)
    end_stays result = on s.top.has_left
      where
        on : (b : Bool) → Stays (after_end (if b then s else h.close s) result s.top.mode)
        on true = after_stays s result s.top.mode refl c
        on false = after_stays (h.close s) result s.top.mode (ap (λ (a : Activation). a.mode) (keeps.closed s).0)
            (subst AreStill (sym (keeps.closed s).1) c)

    freed_stays : (p : Value) → Stays (deallocate s p)
    freed_stays p = then_stays (deallocated (if_let_go s (instance_at s.instances p)).world.memory p) _ (λ memory d.
        let k = goes_on (instance_at s.instances p) in same _ k.0 k.1)
      where
        goes_on : (o : Option (ℕ × Instance))
            → ((if_let_go s o).top.mode ≡ s.top.mode) × ((if_let_go s o).below ≡ s.below)
        goes_on None = (refl, refl)
        goes_on (Some q) = by (may_be_freed q.1)
          where
            by : (b : Bool) → ((if b then let_go s q.0 q.1 else s).top.mode ≡ s.top.mode)
                × ((if b then let_go s q.0 q.1 else s).below ≡ s.below)
            by true = (refl, refl)
            by false = (refl, refl)

    released : (o : Option (ℕ × Instance))
        → ((change_own s (λ x. record x { released = true }) o).top.mode ≡ s.top.mode)
        × ((change_own s (λ x. record x { released = true }) o).below ≡ s.below)
    released None = (refl, refl)
    released (Some p) = (refl, refl)

    pushed : (y : Sleeper) (label : ℕ) → AreStill (h.go_on s y.number y.instance y.suspend y.values label).below
    pushed y label =
        subst AreStill (sym (keeps.go_on s y.number y.instance y.suspend y.values label)) (still, c)

    -- ---- intrinsics

    coro_stays : (i : Intrinsic) (args : List Arg) (vs : List Value) (result : Option ℕ)
        → Stays (hooked_coro h s i args vs result)
    coro_stays Intrinsic.CoroId args vs result = same _ refl refl
    coro_stays Intrinsic.CoroSizeI32 args vs result = same _ refl refl
    coro_stays Intrinsic.CoroSizeI64 args vs result = same _ refl refl
    coro_stays Intrinsic.CoroAlignI32 args vs result = same _ refl refl
    coro_stays Intrinsic.CoroAlignI64 args vs result = same _ refl refl
    coro_stays Intrinsic.CoroAlloc args vs result = same _ refl refl
    coro_stays Intrinsic.CoroBegin args vs result = on (h.start s result (nth vs 1)) refl
      where
        on : (r : Result State Cause) → h.start s result (nth vs 1) ≡ r → Stays r
        on (Err cause) d = tt
        on (Ok t) d = let k = keeps.start s result (nth vs 1) t fit d in same t k.0 k.1
    coro_stays Intrinsic.CoroFree args vs result = let k = released (own_instance s) in same _ k.0 k.1
    coro_stays Intrinsic.CoroFrame args vs result = same _ refl refl
    coro_stays Intrinsic.CoroSave args vs result =
        then_stays (found Cause.State (suspend_of (function_of h.given s) (point_of s))) _ (λ u d.
        save_stays (point_of s) u _ (λ t e b. same _ e b))
    coro_stays Intrinsic.CoroSuspend args vs result = suspend_stays result (operand_at args 0)
    coro_stays Intrinsic.CoroEnd args vs result = end_stays result
    coro_stays Intrinsic.CoroResume args vs result = then_stays (sleeper_at s (nth vs 0)) _ (λ y e.
        ok_stays _ Cause.State _ (goes (nth vs 0) y e _ (inl refl) (pushed y _)))
    coro_stays Intrinsic.CoroDestroy args vs result = then_stays (sleeper_at s (nth vs 0)) _ (λ y e.
        goes (nth vs 0) y e _ (inr refl) (pushed y _))
    coro_stays Intrinsic.CoroDone args vs result = then_stays (sleeper_at s (nth vs 0)) _ (λ y e.
        ok_stays _ Cause.State _ (same _ refl refl))
    coro_stays Intrinsic.CoroPromise args vs result =
        then_stays (h.promised s (nth vs 0) (operand_at args 2)) _ (λ v e. same _ refl refl)
    coro_stays Intrinsic.LifetimeStart args vs result = same _ refl refl
    coro_stays Intrinsic.LifetimeEnd args vs result = same _ refl refl
    coro_stays Intrinsic.MemcpyI64 args vs result = same _ refl refl
    coro_stays Intrinsic.MemcpyI32 args vs result = same _ refl refl

    -- ---- a step

    mode_now : (b : Bool) → IsNotEntering (if b then Mode.Ramp else Mode.Plain)
    mode_now true = tt
    mode_now false = tt

    act_stays : (a : Action) → Stays (hooked_act h s a)
    act_stays (Done w) = same _ refl refl
    act_stays (NewSlot w slot) =
        let k = keeps.place (settled s w) slot still in calm _ k.0 (subst AreStill (sym k.1) c)
    act_stays (Enter func args result must_tail) =
        calm _ (mode_now (function_at h.given.code func).coroutine) (still, c)
    act_stays (Coro i args result) = coro_stays i args (arg_values h.given.code s.top.values args) result
    act_stays (Deallocate p) = freed_stays p
    act_stays (GoTo label) = leaves_stays label (left_windows h.given s label)
    act_stays (Return v) = return_stays s v refl c
    act_stays (Stuck cause) = tt

    next_stays : (x : Fetched) → h.given_call s x ≡ None → Stays (hooked_next h s x)
    next_stays x none = on (h.is_idle s x) (h.given_call s x) none
      where
        on : (b : Bool) (o : Option (Result State Cause)) → o ≡ None
            → Stays (if b then Ok (next s)
            else unwrap_or o (hooked_act h s (action_of (hooked_context h s) (work_of s) x)))
        on true o e = same _ refl refl
        on false None e = act_stays (action_of (hooked_context h s) (work_of s) x)
        on false (Some r) e = absurd (cc)

    pub step_stays : P (step_of h s)
    step_stays = on s.outcome
      where
        by : (r : Result State Cause) → Stays r → P (or_undefined h.given s r)
        by (Err cause) k = same _ refl refl
        by (Ok t) k = k

        on : (o : Outcome) → P (hooked_advance h s o)
        on Outcome.Running =
            by (hooked_next h s (fetch (function_of h.given s) s.top.block s.top.at))
            (next_stays (fetch (function_of h.given s) s.top.block s.top.at)
            (keeps.ungiven s s.top.block s.top.at))
        on (Outcome.Returned v) = same s refl refl
        on (Outcome.Undefined cause place) = same s refl refl
