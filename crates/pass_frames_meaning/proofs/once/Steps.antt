-- A step by hooks keeps it that an alloca made one slot of an activation or instance.
use Rattle.std.proofs.Common.{◌≡◌, ◌≢◌, ℕ, zero, suc, ◌+◌, Bool, true, false, List, [], ◌∷◌, length, Option, Some}
use Rattle.std.proofs.Common.{None}
use Rattle.std.proofs.Common.{Result, Ok, Err, refl, subst}
use Rattle.std.specs.Prelude.{if◌then◌else◌, not, slice_get, slice_set, unwrap_or}
use Rattle.pass_frames_proof.specs.ir_base.declared.cause.Cause.{Cause}
use Rattle.pass_frames_proof.specs.ir_base.declared.outcome.Outcome.{Outcome}
use Rattle.pass_frames_proof.specs.ir_base.declared.outcome.Word.{Word}
use Rattle.pass_frames_proof.specs.ir_model.Names.{function_at, position_of}
use Rattle.pass_frames_proof.specs.ir_model.declared.module.Module.{Module}
use Rattle.pass_frames_proof.specs.ir_model.declared.operand.Arg.{Arg}
use Rattle.pass_frames_proof.specs.ir_model.declared.operand.Intrinsic.{Intrinsic}
use Rattle.pass_frames_proof.specs.ir_model.declared.operand.Operand.{Operand}
use Rattle.pass_frames_proof.specs.ir_paths.Windows.{destroy_label, operand_at, resume_label, suspend_of}
use Rattle.pass_frames_proof.specs.ir_paths.declared.point.Point.{Point}
use Rattle.pass_frames_proof.specs.ir_paths.declared.point.Window.{Window}
use Rattle.pass_frames_meaning.proofs.once.Stack.{changed_once, emptied_by, enters_by, given_once, settled_once}
use Rattle.pass_frames_meaning.proofs.sized.Memory.{GivesSized, step_sized}
use Rattle.pass_frames_meaning.specs.Anew.{AreEntriesFree}
use Rattle.pass_frames_meaning.specs.Once.{AreAllocasOnce, AreOnceOn, IsOnceBy, IsOnceState, KeepsOnce, StaysOnce}
use Rattle.pass_frames_proof.proofs.pass_kept_proof.Actions.{SameAction, action_same}
use Rattle.pass_frames_proof.proofs.pass_kept_proof.Same.{same_all}
use Rattle.pass_frames_proof.specs.pass_kept_proof.Needed.{BranchesTo}
use Rattle.pass_renewed_meaning.proofs.run_hooks.Placing.{own_branch}
use Rattle.pass_renewed_meaning.proofs.run_hooks.Reached.{at_is, own_is}
use Rattle.pass_renewed_meaning.specs.run_hooks.Away.{KeepsAllPlaceRules}
use Rattle.pass_renewed_meaning.specs.run_hooks.Hooks.{Hooks, hooked_act, hooked_advance, hooked_context, hooked_coro}
use Rattle.pass_renewed_meaning.specs.run_hooks.Hooks.{hooked_next}
use Rattle.pass_renewed_meaning.specs.run_hooks.Hooks.{hooked_state_at, step_of}
use Rattle.pass_renewed_meaning.specs.run_hooks.Reached.{IsReachedState}
use Rattle.pass_frames_proof.specs.run_memory.declared.block.MemoryBlock.{MemoryBlock}
use Rattle.pass_frames_proof.specs.run_memory.declared.pointer.Value.{Value}
use Rattle.pass_frames_proof.specs.run_source.Source.{Sleeper, after_end, branch_leaving, change_own, end_of}
use Rattle.pass_frames_proof.specs.run_source.Source.{if_let_go}
use Rattle.pass_frames_proof.specs.run_source.Source.{first_state, left_windows, let_go, may_be_freed, pop, release}
use Rattle.pass_frames_proof.specs.run_source.Source.{return, returned}
use Rattle.pass_frames_proof.specs.run_source.Source.{save_for, sleeper_at, sleeper_of, suspend}
use Rattle.pass_frames_proof.specs.run_source.State.{function_of, gives, instance_at, next, or_undefined, own_instance}
use Rattle.pass_frames_proof.specs.run_source.State.{point_of}
use Rattle.pass_frames_proof.specs.run_source.State.{with_instance, with_left, with_memory, work_of}
use Rattle.pass_frames_proof.specs.run_source.declared.state.Activation.{Activation}
use Rattle.pass_frames_proof.specs.run_source.declared.state.Instance.{Instance}
use Rattle.pass_frames_proof.specs.run_source.declared.state.Mode.{Mode}
use Rattle.pass_frames_proof.specs.run_source.declared.state.State.{State}
use Rattle.pass_frames_proof.specs.run_source.declared.state.Status.{Status}
use Rattle.pass_frames_proof.specs.run_source_tables.Given.{Given}
use Rattle.pass_frames_proof.specs.run_step.Results.{and_then, found, ok_if}
use Rattle.pass_frames_proof.specs.run_step.Runs.{iterate}
use Rattle.pass_frames_proof.specs.run_step.Step.{Action, Coro, Deallocate, Done, Enter, Fetched, GoTo, NewSlot}
use Rattle.pass_frames_proof.specs.run_step.Step.{Return}
use Rattle.pass_frames_proof.specs.run_step.Step.{Stuck, action_of, deallocated, fetch, outcome_of}
use Rattle.pass_frames_proof.specs.run_step.Values.{Env, arg_values, nth}

-- ---- parts of a step

module _ (m : Module) where
  then_once : {A : Type 0} (r : Result A Cause) (f : A → Result State Cause)
      → ((a : A) → r ≡ Ok a → StaysOnce m (f a)) → StaysOnce m (and_then r f)
  then_once (Err cause) f h = tt
  then_once (Ok a) f h = h a refl

  ok_once : (b : Bool) (cause : Cause) (s : State) → IsOnceState m s → StaysOnce m (ok_if b cause s)
  ok_once true cause s h = h
  ok_once false cause s h = tt

  gives_once : (s : State) → IsOnceState m s → (result : Option ℕ) (v : Value) → IsOnceState m (gives s result v)
  gives_once s h result v = given_once m s h result v

  pub own_changed_once : (s : State) → IsOnceState m s → (f : Instance → Instance)
      → ((x : Instance) → (f x).slots ≡ x.slots) → (o : Option (ℕ × Instance))
      → ((i : ℕ) (x : Instance) → o ≡ Some (i, x) → slice_get s.instances i ≡ Some x)
      → IsOnceState m (change_own s f o)
  own_changed_once s h f k None is = h
  own_changed_once s h f k (Some p) is = changed_once m s h p.0 p.1 (f p.1) (is p.0 p.1 refl) (k p.1)

  pop_once : (s : State) → IsOnceState m s → (v : Option Value) (below : List Activation)
      → AreOnceOn m s.instances below → StaysOnce m (pop s v below)
  pop_once s h v [] k = then_once (outcome_of v) _ (λ outcome e. record { stack = h.stack; instances = h.instances })
  pop_once s h v (a ∷ below) k = record { stack = (k.0, k.1, k.2); instances = h.instances }

  return_once : (s : State) → IsOnceState m s → (v : Option Value) → StaysOnce m (return s v)
  return_once s h v = pop_once (returned s) (record {
    stack = (
      emptied_by (function_at m s.top.func) s.top.block s.top.at s.top.slots s.top.instance s.instances s.top.mode
          h.stack.0,
      h.stack.1,
      h.stack.2,
    );
    instances = h.instances;
  }) v s.below h.stack.2

  after_once : (s : State) → IsOnceState m s → (result : Option ℕ) (mode : Mode) → StaysOnce m (after_end s result mode)
  after_once s h result Mode.Resumed = return_once s h None
  after_once s h result _ = gives_once s h result _

  end_once : (s : State) → IsOnceState m s → (result : Option ℕ) (close : State → State) → IsOnceState m (close s)
      → StaysOnce m (end_of s close result)
  end_once s h result close k = on s.top.has_left
    where
      on : (b : Bool) → StaysOnce m (after_end (if b then s else close s) result s.top.mode)
      on true = after_once s h result s.top.mode
      on false = after_once (close s) k result s.top.mode

  sleeper_once : (s : State) (p : Value) (go : Sleeper → Result State Cause)
      → ((i : ℕ) (x : Instance) (at : Point) (vs : Env) → slice_get s.instances i ≡ Some x
      → x.status ≡ Status.Suspended at vs
      → StaysOnce m (go (record { number = i; instance = x; suspend = at; values = vs })))
      → StaysOnce m (and_then (sleeper_at s p) go)
  sleeper_once s p go k = on (instance_at s.instances p) (λ j x e. at_is s.instances p j x e)
    where
      by : (i : ℕ) (x : Instance) → slice_get s.instances i ≡ Some x → (st : Status) → x.status ≡ st
          → StaysOnce m (and_then (sleeper_of i x st) go)
      by i x e Status.Running es = tt
      by i x e (Status.Suspended at vs) es = k i x at vs e es
      by i x e Status.Finished es = tt

      on : (o : Option (ℕ × Instance)) → ((j : ℕ) (x : Instance) → o ≡ Some (j, x) → slice_get s.instances j ≡ Some x)
          → StaysOnce m (and_then (and_then (found Cause.Frame o) (λ (i, x). sleeper_of i x x.status)) go)
      on None is = tt
      on (Some z) is = by z.0 z.1 (is z.0 z.1 refl) z.1.status refl

  module _ (s : State) (h : IsOnceState m s) where
    let_go_once : (o : Option (ℕ × Instance))
        → ((i : ℕ) (x : Instance) → o ≡ Some (i, x) → slice_get s.instances i ≡ Some x)
        → IsOnceState m (if_let_go s o)
    let_go_once None is = h
    let_go_once (Some p) is = on (may_be_freed p.1)
      where
        on : (b : Bool) → IsOnceState m (if b then let_go s p.0 p.1 else s)
        on true =
            let k = changed_once m s h p.0 p.1 (record p.1 { freed = true }) (is p.0 p.1 refl) refl in
            record { stack = k.stack; instances = k.instances }
        on false = h

    freed_once : (p : Value) (v : State) → IsOnceState m v → (r : Result (List MemoryBlock) Cause)
        → StaysOnce m (and_then r (λ memory. Ok (next (with_memory v memory))))
    freed_once p v k r = then_once r (λ memory. Ok (next (with_memory v memory))) (λ memory e.
        settled_once m (with_memory v memory) (record { stack = k.stack; instances = k.instances })
        (work_of (with_memory v memory)))

    own_there : (p : ℕ × Instance) → found Cause.State (own_instance s) ≡ Ok p → slice_get s.instances p.0 ≡ Some p.1
    own_there p e = on (own_instance s) (λ i x d. own_is s i x d) e
      where
        on : (o : Option (ℕ × Instance)) → ((i : ℕ) (x : Instance) → o ≡ Some (i, x) → slice_get s.instances i ≡ Some x)
            → found Cause.State o ≡ Ok p → slice_get s.instances p.0 ≡ Some p.1
        on None is k = absurd (cc)
        on (Some q) is k =
            let same : q ≡ p = cc in
            subst (λ (r : ℕ × Instance). slice_get s.instances r.0 ≡ Some r.1) same (is q.0 q.1 refl)

    -- F1: no label is that of the entry block
    leaves_once : (g : Given) (label : ℕ) → position_of (function_at g.code s.top.func) label ≢ 0
        → (windows : List Window) → StaysOnce m (branch_leaving g s label windows)
    leaves_once g label apart [] = record {
      stack = (
        enters_by (function_at m s.top.func) s.top.block s.top.at (position_of (function_at g.code s.top.func) label)
            s.top.slots s.top.instance s.instances apart s.top.mode h.stack.0,
        h.stack.1,
        h.stack.2,
      );
      instances = h.instances;
    }
    leaves_once g label apart (w ∷ windows) = then_once (found Cause.State (own_instance s)) _ (λ p e.
        let k = changed_once m s h p.0 p.1 (record p.1 { status = Status.Running }) (own_there p e) refl in
        ok_once _ Cause.State _ (record {
          stack = (
            enters_by (function_at m s.top.func) s.top.block s.top.at
                (position_of (function_at g.code s.top.func) label) s.top.slots s.top.instance
                (slice_set s.instances p.0 (record p.1 { status = Status.Running })) apart s.top.mode k.stack.0,
            k.stack.1,
            k.stack.2,
          );
          instances = k.instances;
        }))

    save_once : (k u : Point) (f : State → Result State Cause) → ((t : State) → IsOnceState m t → StaysOnce m (f t))
        → StaysOnce m (and_then (save_for s k u) f)
    save_once k u f then' = on (own_instance s) (λ i x d. own_is s i x d)
      where
        by : (p : ℕ × Instance) → slice_get s.instances p.0 ≡ Some p.1 → (b : Bool)
            → StaysOnce m (and_then (ok_if b Cause.State (with_left (with_instance s p.0 (record p.1 {
              status = Status.Suspended u s.top.values;
              last_save = Some (record { depth = length s.below; save = k });
            })) true)) f)
        by p e false = tt
        by p e true =
            let c = changed_once m s h p.0 p.1 (record p.1 {
              status = Status.Suspended u s.top.values;
              last_save = Some (record { depth = length s.below; save = k });
            }) e refl in
            then' _ (record { stack = (c.stack.0, c.stack.1, c.stack.2); instances = c.instances })

        on : (o : Option (ℕ × Instance)) → ((i : ℕ) (x : Instance) → o ≡ Some (i, x) → slice_get s.instances i ≡ Some x)
            → StaysOnce m (and_then (and_then (found Cause.State o) (λ (i, x).
            ok_if (not x.freed) Cause.State
            (with_left
            (with_instance s i (record x {
              status = Status.Suspended u s.top.values;
              last_save = Some (record { depth = length s.below; save = k });
            })) true))) f)
        on None is = tt
        on (Some p) is = by p (is p.0 p.1 refl) (not p.1.freed)

    suspend_once : (result : Option ℕ) (of_save : Operand) → StaysOnce m (suspend s result of_save)
    suspend_once result Operand.None = save_once (point_of s) (point_of s) _ (λ t k. gives_once t k result _)
    suspend_once result _ = gives_once s h result _

-- ---- a step

module _ (hooks : Hooks) (keeps : KeepsOnce hooks) (allocas : AreAllocasOnce hooks.given.code)
    (entries : AreEntriesFree hooks.given.code) (rules : KeepsAllPlaceRules hooks.given) (s : State)
    (reached : IsReachedState hooks.given s) (h : IsOnceState hooks.given.code s) where
  abbrev m : Module
  m = hooks.given.code

  abbrev here : Fetched
  here = fetch (function_of hooks.given s) s.top.block s.top.at

  abbrev Good : Result State Cause → Type 0
  Good r = StaysOnce hooks.given.code r

  -- a suspended instance goes on at no entry block
  apart_label : (x : Instance) (at : Point) (label : ℕ)
      → BranchesTo label (fetch (function_at hooks.given.code x.coroutine) at.block (at.at + 1))
      → position_of (function_at hooks.given.code x.coroutine) label ≢ 0
  apart_label x at label leads = entries x.coroutine at.block (at.at + 1) label leads

  coro_once : (i : Intrinsic) (args : List Arg) (vs : List Value) (result : Option ℕ)
      → StaysOnce hooks.given.code (hooked_coro hooks s i args vs result)
  coro_once Intrinsic.CoroId args vs result = gives_once m s h None Value.Poison
  coro_once Intrinsic.CoroSizeI32 args vs result = gives_once m s h result _
  coro_once Intrinsic.CoroSizeI64 args vs result = gives_once m s h result _
  coro_once Intrinsic.CoroAlignI32 args vs result = gives_once m s h result _
  coro_once Intrinsic.CoroAlignI64 args vs result = gives_once m s h result _
  coro_once Intrinsic.CoroAlloc args vs result = gives_once m s h result _
  coro_once Intrinsic.CoroFrame args vs result = gives_once m s h result _
  coro_once Intrinsic.LifetimeStart args vs result = gives_once m s h None Value.Poison
  coro_once Intrinsic.LifetimeEnd args vs result = gives_once m s h None Value.Poison
  coro_once Intrinsic.MemcpyI64 args vs result = gives_once m s h None Value.Poison
  coro_once Intrinsic.MemcpyI32 args vs result = gives_once m s h None Value.Poison
  coro_once Intrinsic.CoroBegin args vs result = keeps.start s result (nth vs 1) h
  coro_once Intrinsic.CoroFree args vs result = gives_once m (release s)
      (own_changed_once m s h (λ x. record x { released = true }) (λ x. refl) (own_instance s)
      (λ i x e. own_is s i x e)) result (hooks.freed s)
  coro_once Intrinsic.CoroSave args vs result =
      then_once m (found Cause.State (suspend_of (function_of hooks.given s) (point_of s))) _ (λ u eu.
      save_once m s h (point_of s) u _ (λ t k. gives_once m t k None Value.Poison))
  coro_once Intrinsic.CoroSuspend args vs result = suspend_once m s h result (operand_at args 0)
  coro_once Intrinsic.CoroEnd args vs result = end_once m s h result hooks.close (keeps.close s h)
  coro_once Intrinsic.CoroResume args vs result = sleeper_once m s (nth vs 0) _ (λ i x at us there es.
      ok_once m _ Cause.State _ (keeps.go_on s i x at us
      (resume_label (function_at hooks.given.code x.coroutine) at) h there
      (apart_label x at (resume_label (function_at hooks.given.code x.coroutine) at)
      (own_branch hooks rules s reached i x at us there es).0)))
  coro_once Intrinsic.CoroDestroy args vs result = sleeper_once m s (nth vs 0) _ (λ i x at us there es.
      keeps.go_on s i x at us (destroy_label (function_at hooks.given.code x.coroutine) at) h there
      (apart_label x at (destroy_label (function_at hooks.given.code x.coroutine) at)
      (own_branch hooks rules s reached i x at us there es).1))
  coro_once Intrinsic.CoroDone args vs result = sleeper_once m s (nth vs 0) _ (λ i x at us there es.
      ok_once m _ Cause.State _ (gives_once m s h result _))
  coro_once Intrinsic.CoroPromise args vs result =
      then_once m (hooks.promised s (nth vs 0) (operand_at args 2)) _ (λ v ev. gives_once m s h result v)

  act_once : (a : Action) → SameAction hooks.given.code (λ v. Unit {0}) here s.top.values s.top.values a a
      → GivesSized hooks.given.code s.world.memory here a → Good (hooked_act hooks s a)
  act_once (Stuck cause) k made = tt
  act_once (Done w) k made = settled_once m s h w
  act_once (NewSlot w slot) k made =
      keeps.place s w slot made.1 made.2 made.3
      (allocas s.top.func s.top.block s.top.at slot.alloca made.1 made.2 made.3) h
  act_once (Enter func args result must_tail) k made = record {
    stack = (
      by (function_at hooks.given.code func).coroutine,
      λ first i e. absurd (none i e),
      (settled_once m s h (work_of s)).stack,
    );
    instances = h.instances;
  }
    where
      none : (i : ℕ) → None ≡ Some i → ⊥
      none i e = absurd (cc)

      by : (b : Bool) → IsOnceBy (function_at hooks.given.code func) 0 0 [] None s.instances
          (if b then Mode.Ramp else Mode.Plain)
      by true = record {
        own = record { once = tt; passed = tt };
        low = λ i e. absurd (none i e);
        instance = λ i x e d. absurd (none i e);
      }
      by false = record {
        own = record { once = tt; passed = tt };
        low = λ i e. absurd (none i e);
        instance = λ i x e d. absurd (none i e);
      }
  act_once (Coro i args result) k made = coro_once i args (arg_values hooks.given.code s.top.values args) result
  act_once (Deallocate p) k made =
      freed_once m s h p (if_let_go s (instance_at s.instances p))
      (let_go_once m s h (instance_at s.instances p) (λ i y d. at_is s.instances p i y d))
      (deallocated (if_let_go s (instance_at s.instances p)).world.memory p)
  act_once (GoTo label) k made =
      leaves_once m s h hooks.given label (entries s.top.func s.top.block s.top.at label k.1)
      (left_windows hooks.given s label)
  act_once (Return v) k made = return_once m s h v

  acts : Good (hooked_act hooks s (action_of (hooked_context hooks s) (work_of s) here))
  acts = act_once (action_of (hooked_context hooks s) (work_of s) here)
      (action_same (hooked_context hooks s) s.world s.top.values s.top.values (λ v. Unit {0}) (λ v. Unit {0})
      (same_all _ s.top.values) here (λ v t. tt) (λ v n p. tt))
      (step_sized (hooked_context hooks s) (work_of s) here)

  next_once : Good (hooked_next hooks s here)
  next_once = on (hooks.is_idle s here) (hooks.given_call s here) (keeps.ungiven s s.top.block s.top.at)
    where
      on : (b : Bool) (o : Option (Result State Cause)) → o ≡ None
          → Good (if b then Ok (next s) else unwrap_or o
          (hooked_act hooks s (action_of (hooked_context hooks s) (work_of s) here)))
      on true o e = settled_once m s h (work_of s)
      on false None e = acts
      on false (Some r) e = absurd (cc)

  or_once : (r : Result State Cause) → Good r → IsOnceState hooks.given.code (or_undefined hooks.given s r)
  or_once (Err cause) k = record { stack = h.stack; instances = h.instances }
  or_once (Ok t) k = k

  advance_once : (o : Outcome) → IsOnceState hooks.given.code (hooked_advance hooks s o)
  advance_once Outcome.Running = or_once (hooked_next hooks s here) next_once
  advance_once (Outcome.Returned v) = h
  advance_once (Outcome.Undefined cause place) = h

  pub step_once : IsOnceState hooks.given.code (step_of hooks s)
  step_once = advance_once s.outcome

-- ---- runs

steps_once : (hooks : Hooks) → KeepsOnce hooks → AreAllocasOnce hooks.given.code → AreEntriesFree hooks.given.code
    → KeepsAllPlaceRules hooks.given → (n : ℕ) (s : State)
    → ((k : ℕ) → IsReachedState hooks.given (iterate (step_of hooks) k s)) → IsOnceState hooks.given.code s
    → IsOnceState hooks.given.code (iterate (step_of hooks) n s)
steps_once hooks keeps allocas entries rules zero s reached h = h
steps_once hooks keeps allocas entries rules (suc n) s reached h =
    steps_once hooks keeps allocas entries rules n (step_of hooks s) (λ k. reached (suc k))
    (step_once hooks keeps allocas entries rules s (reached 0) h)

pub states_once : (hooks : Hooks) → KeepsOnce hooks → AreAllocasOnce hooks.given.code
    → AreEntriesFree hooks.given.code → KeepsAllPlaceRules hooks.given → (entry : ℕ) (args : List Word)
    → ((k : ℕ) → IsReachedState hooks.given (hooked_state_at hooks entry args k)) → (n : ℕ)
    → IsOnceState hooks.given.code (hooked_state_at hooks entry args n)
states_once hooks keeps allocas entries rules entry args reached n =
    steps_once hooks keeps allocas entries rules n (first_state hooks.given.code entry args) reached (record {
      stack = (
        record {
          own = record { once = tt; passed = tt };
          low = λ i e. absurd (none i e);
          instance = λ i x e d. absurd (none i e);
        },
        λ first i e. absurd (none i e),
        tt,
      );
      instances = λ i x e. absurd (nowhere i x e);
    })
  where
    none : (i : ℕ) → None ≡ Some i → ⊥
    none i e = absurd (cc)

    nowhere : (i : ℕ) (x : Instance) → slice_get (first_state hooks.given.code entry args).instances i ≡ Some x → ⊥
    nowhere i x e = absurd (cc)
