-- Steps by hooks leave activations below right behind their calls.
use Rattle.std.proofs.Common.{◌≡◌, ℕ, Bool, true, false, List, [], ◌∷◌, length, Option, Some, None, Result, Ok, Err, refl, sym, ap, ◌∙◌, subst, if◌then◌else◌}
use Rattle.std.specs.Prelude.{not, unwrap_or}
use Rattle.std.proofs.lemmas.Bool.{false≢true}
use Rattle.pass_frames_proof.specs.ir_base.declared.cause.Cause.{Cause}
use Rattle.pass_frames_proof.specs.ir_base.declared.outcome.Outcome.{Outcome}
use Rattle.pass_frames_proof.specs.ir_model.Names.{function_at}
use Rattle.pass_frames_proof.specs.ir_model.Ty.{Ty, int}
use Rattle.pass_frames_proof.specs.ir_model.declared.instr.Instr.{Instr}
use Rattle.pass_frames_proof.specs.ir_model.declared.instr.Terminator.{Terminator}
use Rattle.pass_frames_proof.specs.ir_model.declared.operand.Arg.{Arg}
use Rattle.pass_frames_proof.specs.ir_model.declared.operand.Callee.{Callee}
use Rattle.pass_frames_proof.specs.ir_model.declared.operand.Intrinsic.{Intrinsic}
use Rattle.pass_frames_proof.specs.ir_model.declared.operand.Operand.{Operand}
use Rattle.pass_frames_proof.specs.ir_parts.Contents.{result_of}
use Rattle.pass_frames_proof.specs.ir_paths.Windows.{operand_at, suspend_of}
use Rattle.pass_frames_proof.specs.ir_paths.declared.point.Point.{Point}
use Rattle.pass_frames_proof.specs.ir_paths.declared.point.Window.{Window}
use Rattle.pass_frames_meaning.proofs.called.Comes.{Comes, comes}
use Rattle.pass_frames_meaning.proofs.called.Voids.{void_intrinsic}
use Rattle.pass_frames_meaning.specs.Called.{AreBehindCalls, FitsMode, IsBehindCall, IsCalledState, IsCalling, IsCalm, IsOnSame, IsResumedOn, KeepsCalled, StaysCalled}
use Rattle.pass_renewed_meaning.specs.run_hooks.Away.{IsAllocaAt, IsPlacedState, point_in}
use Rattle.pass_renewed_meaning.specs.run_hooks.Hooks.{Hooks, hooked_act, hooked_advance, hooked_context, hooked_coro, hooked_next, step_of}
use Rattle.pass_renewed_meaning.specs.run_hooks.Left.{waiting}
use Rattle.pass_frames_proof.specs.run_memory.declared.pointer.Value.{Value}
use Rattle.pass_frames_proof.specs.run_source.Source.{Sleeper, after_end, branch_leaving, change_own, deallocate, end_of, enter, if_let_go, left_windows, let_go, may_be_freed, pop, release, return, returned, save_for, sleeper_at, sleeper_of, suspend}
use Rattle.pass_frames_proof.specs.run_source.State.{function_of, gives, instance_at, next, or_undefined, own_instance, point_of, settled, with_instance, with_left, with_memory, work_of}
use Rattle.pass_frames_proof.specs.run_source.declared.state.Activation.{Activation}
use Rattle.pass_frames_proof.specs.run_source.declared.state.Instance.{Instance}
use Rattle.pass_frames_proof.specs.run_source.declared.state.Mode.{Mode}
use Rattle.pass_frames_proof.specs.run_source.declared.state.State.{State}
use Rattle.pass_frames_proof.specs.run_source.declared.state.Status.{Status}
use Rattle.pass_frames_proof.specs.run_source_tables.Given.{Given}
use Rattle.pass_frames_proof.specs.run_step.Effects.{is_alloca}
use Rattle.pass_frames_proof.specs.run_step.Results.{and_then, found, ok_if}
use Rattle.pass_frames_proof.specs.run_step.Step.{Action, AtInstr, AtTerm, Coro, Deallocate, Done, Enter, Fetched, GoTo, NewSlot, Nowhere, Return, Stuck, action_of, branch, deallocated, fetch, instr_action, outcome_of, switch, term_action, value_at}
use Rattle.pass_frames_proof.specs.run_step.Values.{arg_value, arg_values, nth}
use Rattle.pass_renewed_meaning.specs.run_types.Rules.{KeepsAllTypes}

pub calm_fits : (instance : Option ℕ) (mode : Mode) → IsCalm mode → FitsMode instance mode
calm_fits instance Mode.Plain h = tt
calm_fits instance Mode.Ramp h = tt
calm_fits instance Mode.Resumed h = tt
calm_fits instance (Mode.GivenRamp frame) h = absurd h
calm_fits instance (Mode.Entering from label) h = absurd h

module _ (h : Hooks) where
  abbrev Fine : State → Type 0
  Fine s = IsCalledState h.given.code s

  abbrev FineResult : Result State Cause → Type 0
  FineResult r = StaysCalled h.given.code r

  then_called : {A : Type 0} (r : Result A Cause) (f : A → Result State Cause)
      → ((a : A) → r ≡ Ok a → FineResult (f a)) → FineResult (and_then r f)
  then_called (Err cause) f k = tt
  then_called (Ok a) f k = k a refl

  ok_called : (b : Bool) (cause : Cause) (s : State) → Fine s → FineResult (ok_if b cause s)
  ok_called true cause s k = k
  ok_called false cause s k = tt

  same_called : (s t : State) → IsOnSame s t → Fine s → Fine t
  same_called s t e k = record {
    mode = e.mode k.mode;
    below = subst (λ (p : Option ℕ × List Activation). AreBehindCalls h.given.code p.0 p.1)
        (λ i. (sym e.result i, sym e.below i)) k.below;
  }

  gives_called : (s : State) (result : Option ℕ) (v : Value) → Fine s → Fine (gives s result v)
  gives_called s result v k = record { mode = k.mode; below = k.below }

  own_called : (s : State) (f : Instance → Instance) (o : Option (ℕ × Instance)) → Fine s → Fine (change_own s f o)
  own_called s f None k = k
  own_called s f (Some p) k = record { mode = k.mode; below = k.below }

  return_called : (s : State) (v : Option Value) → Fine s → FineResult (return s v)
  return_called s v k = by s.below k.below
    where
      by : (below : List Activation) → AreBehindCalls h.given.code s.top.result below → FineResult (pop (returned s) v below)
      by [] c = then_called (outcome_of v) (λ outcome. Ok (record (returned s) { outcome = outcome })) (λ outcome e.
          record { mode = k.mode; below = k.below })
      by (a ∷ below) c = record { mode = calm_fits a.instance a.mode c.0.calm; below = c.1 }

  after_called : (s : State) (result : Option ℕ) (mode : Mode) → Fine s → FineResult (after_end s result mode)
  after_called s result Mode.Resumed k = return_called s None k
  after_called s result _ k = gives_called s result _ k

  sleeper_called : (s : State) (p : Value) (go : Sleeper → Result State Cause) → ((y : Sleeper) → FineResult (go y))
      → FineResult (and_then (sleeper_at s p) go)
  sleeper_called s p go k = on (instance_at s.instances p)
    where
      by : (i : ℕ) (x : Instance) (st : Status) → FineResult (and_then (sleeper_of i x st) go)
      by i x Status.Running = tt
      by i x (Status.Suspended at vs) = k (record { number = i; instance = x; suspend = at; values = vs })
      by i x Status.Finished = tt

      on : (o : Option (ℕ × Instance))
          → FineResult (and_then (and_then (found Cause.Frame o) (λ (i, x). sleeper_of i x x.status)) go)
      on None = tt
      on (Some z) = by z.0 z.1 z.1.status

  module _ (s : State) (k : Fine s) where
    leaves_called : (g : Given) (label : ℕ) (windows : List Window) → FineResult (branch_leaving g s label windows)
    leaves_called g label [] = record { mode = k.mode; below = k.below }
    leaves_called g label (w ∷ windows) = then_called (found Cause.State (own_instance s)) _ (λ p e.
        ok_called _ Cause.State _ (record { mode = k.mode; below = k.below }))

    save_called : (p u : Point) (f : State → Result State Cause) → ((t : State) → Fine t → FineResult (f t))
        → FineResult (and_then (save_for s p u) f)
    save_called p u f then' = on (own_instance s)
      where
        by : (q : ℕ × Instance) (b : Bool)
            → FineResult (and_then (ok_if b Cause.State (with_left (with_instance s q.0 (record q.1 {
              status = Status.Suspended u s.top.values;
              last_save = Some (record { depth = length s.below; save = p });
            })) true)) f)
        by q false = tt
        by q true = then' _ (record { mode = k.mode; below = k.below })

        on : (o : Option (ℕ × Instance))
            → FineResult (and_then (and_then (found Cause.State o) (λ (i, x).
            ok_if (not x.freed) Cause.State
            (with_left
            (with_instance s i (record x {
              status = Status.Suspended u s.top.values;
              last_save = Some (record { depth = length s.below; save = p });
            })) true))) f)
        on None = tt
        on (Some q) = by q (not q.1.freed)

    suspend_called : (result : Option ℕ) (of_save : Operand) → FineResult (suspend s result of_save)
    suspend_called result Operand.None = save_called (point_of s) (point_of s) _ (λ t c. gives_called t result _ c)
    suspend_called result _ = gives_called s result _ k

    end_called : (result : Option ℕ) (close : State → State) → Fine (close s) → FineResult (end_of s close result)
    end_called result close c = on s.top.has_left
      where
        on : (b : Bool) → FineResult (after_end (if b then s else close s) result s.top.mode)
        on true = after_called s result s.top.mode k
        on false = after_called (close s) result s.top.mode c

    freed_called : (p : Value) → FineResult (deallocate s p)
    freed_called p = on (if_let_go s (instance_at s.instances p)) (goes (instance_at s.instances p))
      where
        goes : (o : Option (ℕ × Instance)) → Fine (if_let_go s o)
        goes None = k
        goes (Some q) = by (may_be_freed q.1)
          where
            by : (b : Bool) → Fine (if b then let_go s q.0 q.1 else s)
            by true = record { mode = k.mode; below = k.below }
            by false = k

        on : (t : State) → Fine t
            → FineResult (and_then (deallocated t.world.memory p) (λ memory. Ok (next (with_memory t memory))))
        on t c = then_called (deallocated t.world.memory p) (λ memory. Ok (next (with_memory t memory))) (λ memory e.
            record { mode = c.mode; below = c.below })

  -- ---- a step

  module _ (keeps : KeepsCalled h) (types : KeepsAllTypes h.given.code) (s : State) (k : Fine s)
      (placed : IsPlacedState h s) where
    abbrev here : Fetched
    here = fetch (function_of h.given s) s.top.block s.top.at

    module _ (i : Instr) (there : fetch (function_of h.given s) s.top.block s.top.at ≡ AtInstr i) where
      -- where a call stands no alloca is made again
      calm : IsCalling i → IsCalm s.top.mode
      calm is = on s.top.mode refl
        where
          not_alloca : (j : Instr) → IsCalling j → is_alloca j ≡ true → ⊥
          not_alloca (Instr.Call result must_tail ty callee args) c e = false≢true e
          not_alloca (Instr.Binary name op flags ty a b) c e = c
          not_alloca (Instr.Icmp name pred ty a b) c e = c
          not_alloca (Instr.Select name x a b) c e = c
          not_alloca (Instr.Cast name op nneg arg to) c e = c
          not_alloca (Instr.Alloca name ty align) c e = c
          not_alloca (Instr.Load name ty p align) c e = c
          not_alloca (Instr.Store arg p align) c e = c
          not_alloca (Instr.Gep name inbounds ty base indices) c e = c

          same_instr : (a b : Instr) → AtInstr a ≡ AtInstr b → a ≡ b
          same_instr a b e = cc

          on : (mode : Mode) → s.top.mode ≡ mode → IsCalm mode
          on Mode.Plain e = tt
          on Mode.Ramp e = tt
          on Mode.Resumed e = tt
          on (Mode.GivenRamp frame) e = absurd (subst (FitsMode s.top.instance) e k.mode)
          on (Mode.Entering from label) e =
              let a : IsAllocaAt (function_of h.given s) (point_in s.top) = (placed.top.entering from label e).alloca in
              absurd (not_alloca i is (ap is_alloca (same_instr i a.instr (sym there ∙ a.stands)) ∙ a.is))

      behind : (result : Option ℕ) → IsCalling i → result_of i ≡ result
          → IsBehindCall (function_at h.given.code s.top.func) (waiting s) result
      behind result is gives = record {
        calm = calm is;
        at = s.top.at;
        behind = refl;
        call = i;
        there = there;
        gives = gives;
        calls = is;
      }

      entered : (func : ℕ) (args : List Value) (result : Option ℕ) → IsCalling i → result_of i ≡ result
          → Fine (enter h.given s func args result)
      entered func args result is gives = record {
        mode = on (function_at h.given.code func).coroutine;
        below = (behind result is gives, k.below);
      }
        where
          on : (b : Bool) → FitsMode None (if b then Mode.Ramp else Mode.Plain)
          on true = tt
          on false = tt

      resumed_called : (t : State) → IsCalling i → result_of i ≡ None → IsResumedOn s t → Fine t
      resumed_called t is gives e = record {
        mode = e.mode;
        below = subst (λ (p : Option ℕ × List Activation). AreBehindCalls h.given.code p.0 p.1)
            (λ j. (sym e.result j, sym e.below j)) (behind None is gives, k.below);
      }

      module _ (result : Option ℕ) (must_tail : Bool) (ty : Option Ty) (args : List Arg) (vs : List Value) where
        woken : (x : Intrinsic) → i ≡ Instr.Call result must_tail ty (Callee.Intrinsic x) args
            → IsCalling (Instr.Call result must_tail ty (Callee.Intrinsic x) args)
            → Rattle.pass_frames_proof.specs.rule_types.Wants.intrinsic_result x ≡ None
            → IsCalling i × (result_of i ≡ None)
        woken x e is none = (
          subst IsCalling (sym e) is,
          ap result_of e ∙ void_intrinsic h.given.code (function_at h.given.code s.top.func) (types s.top.func) s.top.block
              s.top.at result must_tail ty x args (there ∙ ap AtInstr e) none,
        )

        coro_called : (x : Intrinsic) → i ≡ Instr.Call result must_tail ty (Callee.Intrinsic x) args
            → FineResult (hooked_coro h s x args vs result)
        coro_called Intrinsic.CoroId e = gives_called s None Value.Poison k
        coro_called Intrinsic.CoroSizeI32 e = gives_called s result _ k
        coro_called Intrinsic.CoroSizeI64 e = gives_called s result _ k
        coro_called Intrinsic.CoroAlignI32 e = gives_called s result _ k
        coro_called Intrinsic.CoroAlignI64 e = gives_called s result _ k
        coro_called Intrinsic.CoroAlloc e = gives_called s result _ k
        coro_called Intrinsic.CoroFrame e = gives_called s result _ k
        coro_called Intrinsic.LifetimeStart e = gives_called s None Value.Poison k
        coro_called Intrinsic.LifetimeEnd e = gives_called s None Value.Poison k
        coro_called Intrinsic.MemcpyI64 e = gives_called s None Value.Poison k
        coro_called Intrinsic.MemcpyI32 e = gives_called s None Value.Poison k
        coro_called Intrinsic.CoroBegin e = on (h.start s result (nth vs 1)) refl
          where
            on : (r : Result State Cause) → h.start s result (nth vs 1) ≡ r → FineResult r
            on (Err cause) d = tt
            on (Ok t) d = same_called s t (keeps.start s result (nth vs 1) t d) k
        coro_called Intrinsic.CoroFree e = gives_called (release s) result (h.freed s)
            (own_called s (λ x. record x { released = true }) (own_instance s) k)
        coro_called Intrinsic.CoroSave e =
            then_called (found Cause.State (suspend_of (function_of h.given s) (point_of s))) _ (λ u eu.
            save_called s k (point_of s) u _ (λ t c. gives_called t None Value.Poison c))
        coro_called Intrinsic.CoroSuspend e = suspend_called s k result (operand_at args 0)
        coro_called Intrinsic.CoroEnd e = end_called s k result h.close (same_called s (h.close s) (keeps.close s) k)
        coro_called Intrinsic.CoroResume e = sleeper_called s (nth vs 0) _ (λ y.
            let q = woken Intrinsic.CoroResume e tt refl in
            ok_called _ Cause.State _ (resumed_called _ q.0 q.1
            (keeps.go_on s y.number y.instance y.suspend y.values _)))
        coro_called Intrinsic.CoroDestroy e = sleeper_called s (nth vs 0) _ (λ y.
            let q = woken Intrinsic.CoroDestroy e tt refl in
            resumed_called _ q.0 q.1 (keeps.go_on s y.number y.instance y.suspend y.values _))
        coro_called Intrinsic.CoroDone e = sleeper_called s (nth vs 0) _ (λ y.
            ok_called _ Cause.State _ (gives_called s result _ k))
        coro_called Intrinsic.CoroPromise e =
            then_called (h.promised s (nth vs 0) (operand_at args 2)) _ (λ v ev. gives_called s result v k)

      instr_called : (a : Action) → Comes i a → FineResult (hooked_act h s a)
      instr_called (Stuck cause) q = tt
      instr_called (Done w) q = record { mode = k.mode; below = k.below }
      instr_called (NewSlot w slot) q = same_called (settled s w) (h.place (settled s w) slot)
          (keeps.place (settled s w) slot) (record { mode = k.mode; below = k.below })
      instr_called (Enter func args result must_tail) q = entered func args result q.0 q.1
      instr_called (Coro x args result) q =
          coro_called result q.0 q.1 args (arg_values h.given.code s.top.values args) x q.2
      instr_called (Deallocate p) q = freed_called s k p
      instr_called (GoTo label) q = absurd q
      instr_called (Return v) q = absurd q

    -- what a terminator does
    abbrev Ends : Action → Type 0
    Ends (GoTo label) = Unit {0}
    Ends (Return v) = Unit {0}
    Ends (Stuck cause) = Unit {0}
    Ends _ = ⊥

    ends : (t : Terminator) → Ends (term_action (hooked_context h s) (work_of s) t)
    ends (Terminator.Jump label) = tt
    ends (Terminator.Branch x a b) = on (value_at (hooked_context h s) (work_of s) (int 1) x)
      where
        on : (v : Value) → Ends (branch v a b)
        on (Value.Int n) = tt
        on Value.Poison = tt
        on (Value.Ptr p) = tt
    ends (Terminator.Switch arg default cases) = on (arg_value h.given.code s.top.values arg)
      where
        on : (v : Value) → Ends (switch h.given.code v default cases)
        on (Value.Int n) = tt
        on Value.Poison = tt
        on (Value.Ptr p) = tt
    ends (Terminator.Ret None) = tt
    ends (Terminator.Ret (Some arg)) = tt
    ends Terminator.Unreachable = tt

    term_called : (a : Action) → Ends a → FineResult (hooked_act h s a)
    term_called (GoTo label) q = leaves_called s k h.given label (left_windows h.given s label)
    term_called (Return v) q = return_called s v k
    term_called (Stuck cause) q = tt
    term_called (Done w) q = absurd q
    term_called (NewSlot w slot) q = absurd q
    term_called (Enter func args result must_tail) q = absurd q
    term_called (Coro x args result) q = absurd q
    term_called (Deallocate p) q = absurd q

    act_called : (x : Fetched) → fetch (function_of h.given s) s.top.block s.top.at ≡ x
        → FineResult (hooked_act h s (action_of (hooked_context h s) (work_of s) x))
    act_called Nowhere e = tt
    act_called (AtInstr i) e = instr_called i e (instr_action (hooked_context h s) (work_of s) i)
        (comes (hooked_context h s) (work_of s) i)
    act_called (AtTerm t) e = term_called (term_action (hooked_context h s) (work_of s) t) (ends t)

    next_called : (x : Fetched) → fetch (function_of h.given s) s.top.block s.top.at ≡ x → h.given_call s x ≡ None
        → FineResult (hooked_next h s x)
    next_called x e none = on (h.is_idle s x) (h.given_call s x) none
      where
        on : (b : Bool) (o : Option (Result State Cause)) → o ≡ None
            → FineResult (if b then Ok (next s) else unwrap_or o
            (hooked_act h s (action_of (hooked_context h s) (work_of s) x)))
        on true o d = gives_called s None Value.Poison k
        on false None d = act_called x e
        on false (Some r) d = absurd (cc)

    or_called : (r : Result State Cause) → FineResult r → Fine (or_undefined h.given s r)
    or_called (Err cause) q = record { mode = k.mode; below = k.below }
    or_called (Ok t) q = q

    advance_called : (o : Outcome) → Fine (hooked_advance h s o)
    advance_called Outcome.Running =
        or_called (hooked_next h s (fetch (function_of h.given s) s.top.block s.top.at))
        (next_called (fetch (function_of h.given s) s.top.block s.top.at) refl (keeps.ungiven s s.top.block s.top.at))
    advance_called (Outcome.Returned v) = k
    advance_called (Outcome.Undefined cause place) = k

pub step_called : (h : Hooks) → KeepsCalled h → KeepsAllTypes h.given.code → (s : State)
    → IsCalledState h.given.code s → IsPlacedState h s → IsCalledState h.given.code (step_of h s)
step_called h keeps types s k placed = advance_called h keeps types s k placed s.outcome
