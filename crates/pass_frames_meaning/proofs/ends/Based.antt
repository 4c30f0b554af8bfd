-- Steps by hooks leave coroutines' activations on others, and those without an instance before begin.
use Rattle.std.proofs.Common.{◌≡◌, ◌⊎◌, inl, inr, ⊎_elim, ℕ, ◌+◌, Bool, true, false, List, [], ◌∷◌, length, Option, Some, None, Result, Ok, Err, refl, sym, ap, ◌∙◌, subst, if◌then◌else◌}
use Rattle.std.specs.Prelude.{not, unwrap_or}
use Rattle.std.proofs.lemmas.Bool.{false≢true}
use Rattle.pass_frames_proof.specs.ir_base.declared.cause.Cause.{Cause}
use Rattle.pass_frames_proof.specs.ir_base.declared.outcome.Outcome.{Outcome}
use Rattle.pass_frames_proof.specs.ir_model.Names.{function_at, position_of}
use Rattle.pass_frames_proof.specs.ir_model.Ty.{Ty}
use Rattle.pass_frames_proof.specs.ir_model.declared.instr.Instr.{Instr}
use Rattle.pass_frames_proof.specs.ir_model.declared.instr.Terminator.{Terminator}
use Rattle.pass_frames_proof.specs.ir_model.declared.module.Function.{Function}
use Rattle.pass_frames_proof.specs.ir_model.declared.module.Module.{Module}
use Rattle.pass_frames_proof.specs.ir_model.declared.operand.Arg.{Arg}
use Rattle.pass_frames_proof.specs.ir_model.declared.operand.Callee.{Callee}
use Rattle.pass_frames_proof.specs.ir_model.declared.operand.Intrinsic.{Intrinsic}
use Rattle.pass_frames_proof.specs.ir_model.declared.operand.Operand.{Operand}
use Rattle.pass_frames_proof.specs.ir_paths.Windows.{operand_at, suspend_of}
use Rattle.pass_frames_proof.specs.ir_paths.declared.point.Point.{Point}
use Rattle.pass_frames_proof.specs.ir_paths.declared.point.Window.{Window}
use Rattle.pass_frames_meaning.proofs.called.Comes.{Comes, comes}
use Rattle.pass_frames_meaning.specs.Based.{AreBased, AreBegunOnce, IsBasedState, IsBeginAhead, IsOnPlace, IsOwnMode, IsWokenOn, KeepsBased, StandsOnPlain, StaysBased}
use Rattle.pass_frames_meaning.specs.Called.{FitsMode}
use Rattle.pass_frames_meaning.specs.Led.{IsBegin}
use Rattle.pass_frames_proof.specs.pass_kept_proof.Crossing.{after_without, along_without, first_without}
use Rattle.pass_frames_proof.specs.pass_kept_proof.Needed.{BranchesTo}
use Rattle.pass_frames_proof.proofs.run_states.renamed.Fits.{Ends, ends}
use Rattle.pass_renewed_meaning.specs.run_hooks.Hooks.{Hooks, hooked_act, hooked_advance, hooked_context, hooked_coro, hooked_next, step_of}
use Rattle.pass_frames_proof.specs.run_memory.declared.pointer.Value.{Value}
use Rattle.pass_frames_proof.specs.run_source.Source.{Sleeper, after_end, branch_leaving, change_own, deallocate, end_of, enter, if_let_go, left_windows, let_go, may_be_freed, pop, release, return, returned, save_for, sleeper_at, sleeper_of, suspend}
use Rattle.pass_frames_proof.specs.run_source.State.{function_of, instance_at, next, or_undefined, own_instance, point_of, settled, with_instance, with_left, with_memory, work_of}
use Rattle.pass_frames_proof.specs.run_source.declared.state.Activation.{Activation}
use Rattle.pass_frames_proof.specs.run_source.declared.state.Instance.{Instance}
use Rattle.pass_frames_proof.specs.run_source.declared.state.Mode.{Mode}
use Rattle.pass_frames_proof.specs.run_source.declared.state.State.{State}
use Rattle.pass_frames_proof.specs.run_source.declared.state.Status.{Status}
use Rattle.pass_frames_proof.specs.run_step.Results.{and_then, found, ok_if}
use Rattle.pass_frames_proof.specs.run_step.Step.{Action, AtInstr, AtTerm, Coro, Deallocate, Done, Enter, Fetched, GoTo, NewSlot, Nowhere, Return, Stuck, Work, action_of, deallocated, fetch, instr_action, outcome_of, term_action}
use Rattle.pass_frames_proof.specs.run_step.Values.{arg_values, nth}

-- ---- instructions

begin_or : (i : Instr) → IsBegin i ⊎ (IsBegin i → ⊥)
begin_or (Instr.Call result must_tail ty (Callee.Intrinsic Intrinsic.CoroBegin) args) = inl tt
begin_or _ = inr (λ b. b)

same_instr : (i j : Instr) → AtInstr i ≡ AtInstr j → i ≡ j
same_instr i j e = cc

-- ---- states

-- the same, one instruction further
next_on : (s t : State) → IsOnPlace s t → IsOnPlace (next s) (next t)
next_on s t e = record {
  func = e.func;
  below = e.below;
  mode = e.mode;
  place = λ none. (
    (e.place none).0,
    ap (λ (p : Point). record { block = p.block; at = p.at + 1 }) (e.place none).1,
  );
}

module _ (m : Module) where
  abbrev Fine : State → Type 0
  Fine s = IsBasedState m s

  abbrev FineResult : Result State Cause → Type 0
  FineResult r = StaysBased m r

  kept_based : (s t : State) → IsOnPlace s t → Fine s → Fine t
  kept_based s t e k = record {
    top = record {
      mode = λ c. e.mode (k.top.mode (ap (λ (n : ℕ). (function_at m n).coroutine) (sym e.func) ∙ c));
      ahead = λ none.
          let y = e.place none in
          subst (λ (z : ℕ × Point). IsBeginAhead (function_at m z.0) z.1) (λ i. (sym e.func i, sym y.1 i))
          (k.top.ahead y.0);
    };
    below = subst (AreBased m) (sym e.below) k.below;
    last = subst (λ (z : ℕ × List Activation). StandsOnPlain m z.0 z.1) (λ i. (sym e.func i, sym e.below i)) k.last;
  }

  woken_based : (s t : State) → IsWokenOn s t → Fine s → Fine (next s) → Fine t
  woken_based s t e k n = record {
    top = record { mode = λ c. e.mode; ahead = λ none. absurd (e.owned none) };
    below = subst (AreBased m) (sym e.below) (record { mode = n.top.mode; ahead = n.top.ahead }, k.below);
    last = subst (StandsOnPlain m t.top.func) (sym e.below) k.last;
  }

  -- ---- parts of a step

  then_based : {A : Type 0} (r : Result A Cause) (f : A → Result State Cause)
      → ((a : A) → r ≡ Ok a → FineResult (f a)) → FineResult (and_then r f)
  then_based (Err cause) f k = tt
  then_based (Ok a) f k = k a refl

  ok_based : (b : Bool) (cause : Cause) (s : State) → Fine s → FineResult (ok_if b cause s)
  ok_based true cause s k = k
  ok_based false cause s k = tt

  settles : (s : State) (w : Work) → Fine (next s) → Fine (settled s w)
  settles s w n = record {
    top = record { mode = n.top.mode; ahead = n.top.ahead };
    below = n.below;
    last = n.last;
  }

  own_next : (s : State) (f : Instance → Instance) (o : Option (ℕ × Instance)) → Fine (next s)
      → Fine (next (change_own s f o))
  own_next s f None n = n
  own_next s f (Some p) n = record {
    top = record { mode = n.top.mode; ahead = n.top.ahead };
    below = n.below;
    last = n.last;
  }

  return_based : (s : State) (v : Option Value) → Fine s → FineResult (return s v)
  return_based s v k = by s.below k.below k.last
    where
      by : (below : List Activation) → AreBased m below → StandsOnPlain m s.top.func below
          → FineResult (pop (returned s) v below)
      by [] c l = then_based (outcome_of v) (λ outcome. Ok (record (returned s) { outcome = outcome })) (λ outcome e.
          record { top = record { mode = k.top.mode; ahead = k.top.ahead }; below = k.below; last = k.last })
      by (a ∷ below) c l = record {
        top = record { mode = c.0.mode; ahead = c.0.ahead };
        below = c.1;
        last = l;
      }

  after_based : (s : State) (result : Option ℕ) (mode : Mode) → Fine s → Fine (next s)
      → FineResult (after_end s result mode)
  after_based s result Mode.Resumed k n = return_based s None k
  after_based s result _ k n = settles s _ n

  sleeper_based : (s : State) (p : Value) (go : Sleeper → Result State Cause) → ((y : Sleeper) → FineResult (go y))
      → FineResult (and_then (sleeper_at s p) go)
  sleeper_based s p go k = on (instance_at s.instances p)
    where
      by : (i : ℕ) (x : Instance) (st : Status) → FineResult (and_then (sleeper_of i x st) go)
      by i x Status.Running = tt
      by i x (Status.Suspended at vs) = k (record { number = i; instance = x; suspend = at; values = vs })
      by i x Status.Finished = tt

      on : (o : Option (ℕ × Instance))
          → FineResult (and_then (and_then (found Cause.Frame o) (λ (i, x). sleeper_of i x x.status)) go)
      on None = tt
      on (Some z) = by z.0 z.1 z.1.status

  module _ (s : State) (n : Fine (next s)) where
    save_based : (p u : Point) (f : State → Result State Cause) → ((t : State) → Fine (next t) → FineResult (f t))
        → FineResult (and_then (save_for s p u) f)
    save_based p u f then' = on (own_instance s)
      where
        by : (q : ℕ × Instance) (b : Bool)
            → FineResult (and_then (ok_if b Cause.State (with_left (with_instance s q.0 (record q.1 {
              status = Status.Suspended u s.top.values;
              last_save = Some (record { depth = length s.below; save = p });
            })) true)) f)
        by q false = tt
        by q true = then' _ (record {
          top = record { mode = n.top.mode; ahead = n.top.ahead };
          below = n.below;
          last = n.last;
        })

        on : (o : Option (ℕ × Instance))
            → FineResult (and_then (and_then (found Cause.State o) (λ (i, x).
            ok_if (not x.freed) Cause.State
            (with_left
            (with_instance s i (record x {
              status = Status.Suspended u s.top.values;
              last_save = Some (record { depth = length s.below; save = p });
            })) true))) f)
        on None = tt
        on (Some q) = by q (not q.1.freed)

    suspend_based : (result : Option ℕ) (of_save : Operand) → FineResult (suspend s result of_save)
    suspend_based result Operand.None = save_based (point_of s) (point_of s) _ (λ t c. settles t _ c)
    suspend_based result _ = settles s _ n

    end_based : (result : Option ℕ) (close : State → State) → Fine s → IsOnPlace s (close s)
        → FineResult (end_of s close result)
    end_based result close k c = on s.top.has_left
      where
        on : (b : Bool) → FineResult (after_end (if b then s else close s) result s.top.mode)
        on true = after_based s result s.top.mode k n
        on false = after_based (close s) result s.top.mode (kept_based s (close s) c k)
            (kept_based (next s) (next (close s)) (next_on s (close s) c) n)

    freed_based : (p : Value) → FineResult (deallocate s p)
    freed_based p = on (if_let_go s (instance_at s.instances p)) (goes (instance_at s.instances p))
      where
        goes : (o : Option (ℕ × Instance)) → Fine (next (if_let_go s o))
        goes None = n
        goes (Some q) = by (may_be_freed q.1)
          where
            by : (b : Bool) → Fine (next (if b then let_go s q.0 q.1 else s))
            by true = record {
              top = record { mode = n.top.mode; ahead = n.top.ahead };
              below = n.below;
              last = n.last;
            }
            by false = n

        on : (t : State) → Fine (next t)
            → FineResult (and_then (deallocated t.world.memory p) (λ memory. Ok (next (with_memory t memory))))
        on t c = then_based (deallocated t.world.memory p) (λ memory. Ok (next (with_memory t memory))) (λ memory e.
            record { top = record { mode = c.top.mode; ahead = c.top.ahead }; below = c.below; last = c.last })

-- ---- a step

module _ (h : Hooks) (keeps : KeepsBased h) (once : AreBegunOnce h.given.code) (s : State)
    (k : IsBasedState h.given.code s) (fits : FitsMode s.top.instance s.top.mode) where
  abbrev m : Module
  m = h.given.code

  abbrev f : Function
  f = function_at h.given.code s.top.func

  abbrev here : Fetched
  here = fetch (function_of h.given s) s.top.block s.top.at

  -- behind an instruction that is no begin
  behind : (i : Instr) → fetch (function_of h.given s) s.top.block s.top.at ≡ AtInstr i → (IsBegin i → ⊥)
      → IsBasedState h.given.code (next s)
  behind i there other = record {
    top = record {
      mode = k.top.mode;
      ahead = λ none v named.
          after_without i there (λ g. other ((once s.top.func v named).alone s.top.block s.top.at i there g))
          (k.top.ahead none v named);
    };
    below = k.below;
    last = k.last;
  }

  module _ (i : Instr) (there : fetch (function_of h.given s) s.top.block s.top.at ≡ AtInstr i)
      (other : IsBegin i → ⊥) where
    n : IsBasedState h.given.code (next s)
    n = behind i there other

    entered : (func : ℕ) (args : List Value) (result : Option ℕ)
        → IsBasedState h.given.code (enter h.given s func args result)
    entered func args result = record {
      top = record {
        mode = on (function_at h.given.code func).coroutine;
        ahead = λ none v named. first_without (once func v named).no_param ((once func v named).no_phi 0);
      };
      below = (record { mode = n.top.mode; ahead = n.top.ahead }, k.below);
      last = k.last;
    }
      where
        on : (b : Bool) → b ≡ true → IsOwnMode (if b then Mode.Ramp else Mode.Plain)
        on true e = tt
        on false e = absurd (false≢true e)

    coro_based : (x : Intrinsic) (result : Option ℕ) (must_tail : Bool) (ty : Option Ty) (args : List Arg)
        (vs : List Value) → i ≡ Instr.Call result must_tail ty (Callee.Intrinsic x) args
        → StaysBased h.given.code (hooked_coro h s x args vs result)
    coro_based Intrinsic.CoroId result must_tail ty args vs e = settles m s _ n
    coro_based Intrinsic.CoroSizeI32 result must_tail ty args vs e = settles m s _ n
    coro_based Intrinsic.CoroSizeI64 result must_tail ty args vs e = settles m s _ n
    coro_based Intrinsic.CoroAlignI32 result must_tail ty args vs e = settles m s _ n
    coro_based Intrinsic.CoroAlignI64 result must_tail ty args vs e = settles m s _ n
    coro_based Intrinsic.CoroAlloc result must_tail ty args vs e = settles m s _ n
    coro_based Intrinsic.CoroFrame result must_tail ty args vs e = settles m s _ n
    coro_based Intrinsic.LifetimeStart result must_tail ty args vs e = settles m s _ n
    coro_based Intrinsic.LifetimeEnd result must_tail ty args vs e = settles m s _ n
    coro_based Intrinsic.MemcpyI64 result must_tail ty args vs e = settles m s _ n
    coro_based Intrinsic.MemcpyI32 result must_tail ty args vs e = settles m s _ n
    coro_based Intrinsic.CoroBegin result must_tail ty args vs e = absurd (other (subst IsBegin (sym e) tt))
    coro_based Intrinsic.CoroFree result must_tail ty args vs e =
        settles m (release s) _ (own_next m s (λ x. record x { released = true }) (own_instance s) n)
    coro_based Intrinsic.CoroSave result must_tail ty args vs e =
        then_based m (found Cause.State (suspend_of (function_of h.given s) (point_of s))) _ (λ u eu.
        save_based m s n (point_of s) u _ (λ t c. settles m t _ c))
    coro_based Intrinsic.CoroSuspend result must_tail ty args vs e =
        suspend_based m s n result (operand_at args 0)
    coro_based Intrinsic.CoroEnd result must_tail ty args vs e =
        end_based m s n result h.close k (keeps.close s)
    coro_based Intrinsic.CoroResume result must_tail ty args vs e = sleeper_based m s (nth vs 0) _ (λ y.
        ok_based m _ Cause.State _ (woken_based m s _ (keeps.go_on s y.number y.instance y.suspend y.values _) k n))
    coro_based Intrinsic.CoroDestroy result must_tail ty args vs e = sleeper_based m s (nth vs 0) _ (λ y.
        woken_based m s _ (keeps.go_on s y.number y.instance y.suspend y.values _) k n)
    coro_based Intrinsic.CoroDone result must_tail ty args vs e = sleeper_based m s (nth vs 0) _ (λ y.
        ok_based m _ Cause.State _ (settles m s _ n))
    coro_based Intrinsic.CoroPromise result must_tail ty args vs e =
        then_based m (h.promised s (nth vs 0) (operand_at args 2)) _ (λ v ev. settles m s _ n)

    instr_based : (a : Action) → Comes i a → StaysBased h.given.code (hooked_act h s a)
    instr_based (Stuck cause) q = tt
    instr_based (Done w) q = settles m s w n
    instr_based (NewSlot w slot) q = kept_based m (settled s w) (h.place (settled s w) slot)
        (keeps.place (settled s w) slot fits) (settles m s w n)
    instr_based (Enter func args result must_tail) q = entered func args result
    instr_based (Coro x args result) q =
        coro_based x result q.0 q.1 args (arg_values h.given.code s.top.values args) q.2
    instr_based (Deallocate p) q = freed_based m s n p
    instr_based (GoTo label) q = absurd q
    instr_based (Return v) q = absurd q

  begins : (i : Instr) → IsBegin i
      → StaysBased h.given.code (hooked_act h s (instr_action (hooked_context h s) (work_of s) i))
  begins (Instr.Call result must_tail ty (Callee.Intrinsic Intrinsic.CoroBegin) args) b =
      on (h.start s result (nth (arg_values h.given.code s.top.values args) 1)) refl
    where
      on : (r : Result State Cause) → h.start s result (nth (arg_values h.given.code s.top.values args) 1) ≡ r
          → StaysBased h.given.code r
      on (Err cause) e = tt
      on (Ok t) e =
          let y = keeps.start s result (nth (arg_values h.given.code s.top.values args) 1) t e in
          kept_based m s t (record {
            func = y.0.func;
            below = y.0.below;
            mode = y.0.mode;
            place = λ none. absurd (y.1 none);
          }) k
  begins _ b = absurd b

  -- ---- terminators

  module _ (t : Terminator) (there : fetch (function_of h.given s) s.top.block s.top.at ≡ AtTerm t) where
    leaves_based : (label : ℕ) → BranchesTo label (AtTerm t) → (windows : List Window)
        → StaysBased h.given.code (branch_leaving h.given s label windows)
    leaves_based label q windows = on windows
      where
        onward : s.top.instance ≡ None
            → IsBeginAhead f (record { block = position_of f label; at = 0 })
        onward none v named = along_without label (subst (BranchesTo label) (sym there) q)
            ((once s.top.func v named).no_phi (position_of f label))
            (k.top.ahead none v named)

        on : (windows : List Window) → StaysBased h.given.code (branch_leaving h.given s label windows)
        on [] = record {
          top = record { mode = k.top.mode; ahead = onward };
          below = k.below;
          last = k.last;
        }
        on (w ∷ ws) = then_based m (found Cause.State (own_instance s)) _ (λ p e.
            ok_based m _ Cause.State _ (record {
              top = record { mode = k.top.mode; ahead = onward };
              below = k.below;
              last = k.last;
            }))

    term_based : (a : Action) → Ends (hooked_context h s) (work_of s) t a → StaysBased h.given.code (hooked_act h s a)
    term_based (GoTo label) q = leaves_based label q (left_windows h.given s label)
    term_based (Return v) q = return_based m s v k
    term_based (Stuck cause) q = tt
    term_based (Done w) q = absurd q
    term_based (NewSlot w slot) q = absurd q
    term_based (Enter func args result must_tail) q = absurd q
    term_based (Coro x args result) q = absurd q
    term_based (Deallocate p) q = absurd q

  act_based : (x : Fetched) → fetch (function_of h.given s) s.top.block s.top.at ≡ x
      → StaysBased h.given.code (hooked_act h s (action_of (hooked_context h s) (work_of s) x))
  act_based Nowhere e = tt
  act_based (AtInstr i) e = ⊎_elim (begins i)
      (λ other. instr_based i e other (instr_action (hooked_context h s) (work_of s) i)
      (comes (hooked_context h s) (work_of s) i))
      (begin_or i)
  act_based (AtTerm t) e = term_based t e (term_action (hooked_context h s) (work_of s) t)
      (ends (hooked_context h s) (work_of s) t)

  next_based : (x : Fetched) → fetch (function_of h.given s) s.top.block s.top.at ≡ x → h.given_call s x ≡ None
      → StaysBased h.given.code (hooked_next h s x)
  next_based x e none = on (h.is_idle s x) refl (h.given_call s x) none
    where
      on : (b : Bool) → h.is_idle s x ≡ b → (o : Option (Result State Cause)) → o ≡ None
          → StaysBased h.given.code (if b then Ok (next s) else unwrap_or o
          (hooked_act h s (action_of (hooked_context h s) (work_of s) x)))
      on true idle o d = let y = keeps.idle s x idle in behind y.instr (e ∙ y.stands) y.other
      on false idle None d = act_based x e
      on false idle (Some r) d = absurd (cc)

  or_based : (r : Result State Cause) → StaysBased h.given.code r → IsBasedState h.given.code (or_undefined h.given s r)
  or_based (Err cause) q = record {
    top = record { mode = k.top.mode; ahead = k.top.ahead };
    below = k.below;
    last = k.last;
  }
  or_based (Ok t) q = q

  pub step_based : IsBasedState h.given.code (step_of h s)
  step_based = by s.outcome
    where
      by : (o : Outcome) → IsBasedState h.given.code (hooked_advance h s o)
      by Outcome.Running =
          or_based (hooked_next h s (fetch (function_of h.given s) s.top.block s.top.at))
          (next_based (fetch (function_of h.given s) s.top.block s.top.at) refl
          (keeps.ungiven s s.top.block s.top.at))
      by (Outcome.Returned v) = k
      by (Outcome.Undefined cause place) = k
