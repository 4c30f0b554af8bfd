-- Steps by hooks keep it that each slot is that of an alloca of its function.
use Rattle.std.proofs.Common.{◌≡◌, ℕ, zero, suc, Bool, true, false, List, [], ◌∷◌, ◌++◌, length}
use Rattle.std.proofs.Common.{Option, Some, None, Result, Ok, Err, refl, sym, ◌∙◌, subst}
use Rattle.std.specs.Prelude.{if◌then◌else◌, filter, not, slice_get, slice_set, unwrap_or}
use Rattle.run_hooks.specs.ir_base.declared.cause.Cause.{Cause}
use Rattle.run_hooks.specs.ir_base.declared.outcome.Outcome.{Outcome}
use Rattle.run_hooks.specs.ir_base.declared.outcome.Word.{Word}
use Rattle.run_hooks.specs.ir_model.Layout.{size_of}
use Rattle.run_hooks.specs.ir_model.Names.{function_at}
use Rattle.run_hooks.specs.ir_model.Ty.{Ty}
use Rattle.run_hooks.specs.ir_model.declared.instr.Instr.{Instr}
use Rattle.run_hooks.specs.ir_model.declared.module.Function.{Function}
use Rattle.run_hooks.specs.ir_model.declared.module.Module.{Module}
use Rattle.run_hooks.specs.ir_model.declared.operand.Allocator.{Allocator}
use Rattle.run_hooks.specs.ir_model.declared.operand.Arg.{Arg}
use Rattle.run_hooks.specs.ir_model.declared.operand.Callee.{Callee}
use Rattle.run_hooks.specs.ir_model.declared.operand.Intrinsic.{Intrinsic}
use Rattle.run_hooks.specs.ir_model.declared.operand.Operand.{Operand}
use Rattle.run_hooks.specs.ir_paths.Windows.{operand_at, suspend_of}
use Rattle.run_hooks.specs.ir_paths.declared.point.Point.{Point}
use Rattle.run_hooks.specs.ir_paths.declared.point.Window.{Window}
use Rattle.run_hooks.specs.pass_kept_proof.Needed.{after}
use Rattle.run_hooks.proofs.Reached.{at_is, own_is}
use Rattle.run_hooks.specs.Hooks.{Hooks, hooked_act, hooked_advance, hooked_context, hooked_coro, hooked_next}
use Rattle.run_hooks.specs.Hooks.{hooked_state_at, step_of}
use Rattle.run_hooks.specs.Reached.{IsReachedState}
use Rattle.run_hooks.proofs.run_laws.embedded.Refills.{step_only}
use Rattle.run_hooks.specs.run_laws.embedded.Refilled.{OnlyRefills}
use Rattle.run_hooks.specs.run_memory.declared.block.MemoryBlock.{MemoryBlock}
use Rattle.run_hooks.specs.run_memory.declared.pointer.Value.{Value}
use Rattle.run_slots.specs.Made.{AreMade, AreMadeIn, AreMadeOn, IsMadeState, KeepsMade, StaysMade}
use Rattle.run_hooks.specs.run_source.Source.{Sleeper, after_end, branch_leaving, change_own, end_of, if_let_go}
use Rattle.run_hooks.specs.run_source.Source.{first_state, left_windows, let_go, may_be_freed, pop, release, return, returned}
use Rattle.run_hooks.specs.run_source.Source.{save_for, sleeper_at, sleeper_of, suspend}
use Rattle.run_hooks.specs.run_source.State.{function_of, gives, instance_at, next, or_undefined, own_instance, point_of}
use Rattle.run_hooks.specs.run_source.State.{settled, with_instance, with_left, work_of}
use Rattle.run_hooks.specs.run_source.declared.state.Activation.{Activation}
use Rattle.run_hooks.specs.run_source.declared.state.Instance.{Instance}
use Rattle.run_hooks.specs.run_source.declared.state.Mode.{Mode}
use Rattle.run_hooks.specs.run_source.declared.state.State.{State}
use Rattle.run_hooks.specs.run_source.declared.state.Status.{Status}
use Rattle.run_hooks.specs.run_source_tables.Given.{Given}
use Rattle.run_hooks.specs.run_step.Results.{and_then, found, ok_if}
use Rattle.run_hooks.specs.run_step.Runs.{iterate}
use Rattle.run_hooks.specs.run_step.Step.{Action, AtInstr, AtTerm, Context, Coro, Deallocate, Done, Enter, Fetched, GoTo}
use Rattle.run_hooks.specs.run_step.Step.{NewSlot, Nowhere, Return, Stuck, Work, action_of, alloca, deallocated, fetch}
use Rattle.run_hooks.specs.run_step.Step.{is_alignment, outcome_of, with_length}
use Rattle.run_hooks.specs.run_step.Values.{arg_values, nth}
use Rattle.run_hooks.specs.run_step.declared.world.Slot.{Slot}

-- ---- lists

pub made_joined : (f : Function) (a b : List Slot) → AreMade f a → AreMade f b → AreMade f (a ++ b)
made_joined f [] b h k = k
made_joined f (s ∷ a) b h k = (h.0, made_joined f a b h.1 k)

pub made_filtered : (f : Function) (p : Slot → Bool) (ss : List Slot) → AreMade f ss → AreMade f (filter p ss)
made_filtered f p [] h = tt
made_filtered f p (s ∷ ss) h = on (p s) (made_filtered f p ss h.1)
  where
    on : (b : Bool) → AreMade f (filter p ss) → AreMade f (if b then s ∷ filter p ss else filter p ss)
    on true k = (h.0, k)
    on false k = k

pub made_at : (m : Module) (xs : List Instance) (i : ℕ) (x : Instance) → slice_get xs i ≡ Some x → AreMadeIn m xs
    → AreMade (function_at m x.coroutine) x.slots
made_at m [] i x e h = absurd (cc)
made_at m (y ∷ xs) zero x e h =
    let same : y ≡ x = cc in subst (λ (z : Instance). AreMade (function_at m z.coroutine) z.slots) same h.0
made_at m (y ∷ xs) (suc i) x e h = made_at m xs i x e h.1

pub made_set : (m : Module) (xs : List Instance) (i : ℕ) (y : Instance) → AreMade (function_at m y.coroutine) y.slots
    → AreMadeIn m xs → AreMadeIn m (slice_set xs i y)
made_set m [] i y k h = tt
made_set m (x ∷ xs) zero y k h = (k, h.1)
made_set m (x ∷ xs) (suc i) y k h = (h.0, made_set m xs i y k h.1)

pub made_more : (m : Module) (xs : List Instance) (y : Instance) → AreMade (function_at m y.coroutine) y.slots
    → AreMadeIn m xs → AreMadeIn m (xs ++ y ∷ [])
made_more m [] y k h = (k, tt)
made_more m (x ∷ xs) y k h = (h.0, made_more m xs y k h.1)

-- ---- an alloca makes the slot

-- a new slot comes of an alloca of its name
abbrev Makes : Fetched → Action → Type 0
Makes x (NewSlot w slot) = (ty : Ty) × (align : ℕ) × (x ≡ AtInstr (Instr.Alloca slot.alloca ty align))
Makes x _ = Unit {0}

only_makes : (m : List MemoryBlock) (x : Fetched) (a : Action) → OnlyRefills m a → Makes x a
only_makes m x (NewSlot w slot) h = absurd h
only_makes m x _ h = tt

module _ (c : Context) (w : Work) where
  length_makes : (x : Fetched) (v : Value) (f : ℕ → Action) → ((n : ℕ) → Makes x (f n)) → Makes x (with_length v f)
  length_makes x (Value.Int y) f h = h y.bits
  length_makes x Value.Poison f h = tt
  length_makes x (Value.Ptr p) f h = tt

  instr_makes : (i : Instr) → Makes (AtInstr i) (action_of c w (AtInstr i))
  instr_makes (Instr.Call result must_tail ty (Callee.Allocator Allocator.Malloc) args) =
      length_makes _ (nth (arg_values c.code w.values args) 0) _ (λ n. tt)
  instr_makes (Instr.Call result must_tail ty (Callee.Allocator Allocator.Znwm) args) =
      length_makes _ (nth (arg_values c.code w.values args) 0) _ (λ n. tt)
  instr_makes (Instr.Call result must_tail ty (Callee.Intrinsic Intrinsic.LifetimeStart) args) = tt
  instr_makes (Instr.Call result must_tail ty (Callee.Intrinsic Intrinsic.LifetimeEnd) args) = tt
  instr_makes (Instr.Alloca name ty align) = on (is_alignment align)
    where
      on : (t : Bool) → Makes (AtInstr (Instr.Alloca name ty align))
          (if t then alloca c w name (size_of c.code ty) align else Stuck Cause.Align)
      on true = (ty, align, refl)
      on false = tt
  instr_makes i = only_makes w.world.memory (AtInstr i) (action_of c w (AtInstr i)) (step_only c w (AtInstr i) tt)

  step_makes : (x : Fetched) → Makes x (action_of c w x)
  step_makes (AtInstr i) = instr_makes i
  step_makes (AtTerm t) = only_makes w.world.memory (AtTerm t) (action_of c w (AtTerm t)) (step_only c w (AtTerm t) tt)
  step_makes Nowhere = tt

-- ---- parts of a step

then_made : {A : Type 0} (m : Module) (r : Result A Cause) (f : A → Result State Cause)
    → ((a : A) → r ≡ Ok a → StaysMade m (f a)) → StaysMade m (and_then r f)
then_made m (Err cause) f h = tt
then_made m (Ok a) f h = h a refl

ok_made : (m : Module) (b : Bool) (cause : Cause) (s : State) → IsMadeState m s → StaysMade m (ok_if b cause s)
ok_made m true cause s h = h
ok_made m false cause s h = tt

module _ (m : Module) (s : State) (h : IsMadeState m s) where
  gives_made : (result : Option ℕ) (v : Value) → IsMadeState m (gives s result v)
  gives_made result v = record { stack = h.stack; instances = h.instances }

  -- an instance changes, but not in its slots
  pub changed_made : (i : ℕ) (x y : Instance) → slice_get s.instances i ≡ Some x → y.coroutine ≡ x.coroutine
      → y.slots ≡ x.slots → IsMadeState m (with_instance s i y)
  changed_made i x y e coroutine slots = record {
    stack = h.stack;
    instances = made_set m s.instances i y
        (subst (λ (k : ℕ). AreMade (function_at m k) y.slots) (sym coroutine)
        (subst (AreMade (function_at m x.coroutine)) (sym slots) (made_at m s.instances i x e h.instances)))
        h.instances;
  }

  pub own_changed : (f : Instance → Instance)
      → ((x : Instance) → ((f x).coroutine ≡ x.coroutine) × ((f x).slots ≡ x.slots)) → (o : Option (ℕ × Instance))
      → ((i : ℕ) (x : Instance) → o ≡ Some (i, x) → slice_get s.instances i ≡ Some x) → IsMadeState m (change_own s f o)
  own_changed f k None is = h
  own_changed f k (Some p) is = changed_made p.0 p.1 (f p.1) (is p.0 p.1 refl) (k p.1).0 (k p.1).1

  pop_made : (v : Option Value) (below : List Activation) → AreMadeOn m below → StaysMade m (pop s v below)
  pop_made v [] k = then_made m (outcome_of v) _ (λ outcome e. record { stack = h.stack; instances = h.instances })
  pop_made v (a ∷ below) k = record { stack = (k.0, k.1); instances = h.instances }

return_made : (m : Module) (s : State) (v : Option Value) → IsMadeState m s → StaysMade m (return s v)
return_made m s v h =
    pop_made m (returned s) (record { stack = (tt, h.stack.1); instances = h.instances }) v s.below h.stack.1

after_made : (m : Module) (s : State) (result : Option ℕ) (mode : Mode) → IsMadeState m s
    → StaysMade m (after_end s result mode)
after_made m s result Mode.Resumed h = return_made m s None h
after_made m s result _ h = gives_made m s h result _

sleeper_made : (m : Module) (s : State) (p : Value) (go : Sleeper → Result State Cause)
    → ((y : Sleeper) → slice_get s.instances y.number ≡ Some y.instance → StaysMade m (go y))
    → StaysMade m (and_then (sleeper_at s p) go)
sleeper_made m s p go k = on (instance_at s.instances p) (λ j x e. at_is s.instances p j x e)
  where
    by : (i : ℕ) (x : Instance) → slice_get s.instances i ≡ Some x → (st : Status)
        → StaysMade m (and_then (sleeper_of i x st) go)
    by i x e Status.Running = tt
    by i x e (Status.Suspended at vs) = k (record { number = i; instance = x; suspend = at; values = vs }) e
    by i x e Status.Finished = tt

    on : (o : Option (ℕ × Instance)) → ((j : ℕ) (x : Instance) → o ≡ Some (j, x) → slice_get s.instances j ≡ Some x)
        → StaysMade m (and_then (and_then (found Cause.Frame o) (λ (i, x). sleeper_of i x x.status)) go)
    on None is = tt
    on (Some z) is = by z.0 z.1 (is z.0 z.1 refl) z.1.status

module _ (m : Module) (s : State) (h : IsMadeState m s) where
  let_go_made : (o : Option (ℕ × Instance))
      → ((i : ℕ) (x : Instance) → o ≡ Some (i, x) → slice_get s.instances i ≡ Some x) → IsMadeState m (if_let_go s o)
  let_go_made None is = h
  let_go_made (Some p) is = on (may_be_freed p.1)
    where
      on : (b : Bool) → IsMadeState m (if b then let_go s p.0 p.1 else s)
      on true =
          let k = changed_made m s h p.0 p.1 (record p.1 { freed = true }) (is p.0 p.1 refl) refl refl in
          record { stack = k.stack; instances = k.instances }
      on false = h

  own_there : (p : ℕ × Instance) → found Cause.State (own_instance s) ≡ Ok p → slice_get s.instances p.0 ≡ Some p.1
  own_there p e = on (own_instance s) (λ i x d. own_is s i x d) e
    where
      on : (o : Option (ℕ × Instance)) → ((i : ℕ) (x : Instance) → o ≡ Some (i, x) → slice_get s.instances i ≡ Some x)
          → found Cause.State o ≡ Ok p → slice_get s.instances p.0 ≡ Some p.1
      on None is k = absurd (cc)
      on (Some q) is k =
          let same : q ≡ p = cc in
          subst (λ (r : ℕ × Instance). slice_get s.instances r.0 ≡ Some r.1) same (is q.0 q.1 refl)

  leaves_made : (g : Given) (label : ℕ) (windows : List Window) → StaysMade m (branch_leaving g s label windows)
  leaves_made g label [] = record { stack = h.stack; instances = h.instances }
  leaves_made g label (w ∷ windows) = then_made m (found Cause.State (own_instance s)) _ (λ p e.
      let k = changed_made m s h p.0 p.1 (record p.1 { status = Status.Running }) (own_there p e) refl refl in
      ok_made m _ Cause.State _ (record { stack = k.stack; instances = k.instances }))

  save_made : (k u : Point) (f : State → Result State Cause) → ((t : State) → IsMadeState m t → StaysMade m (f t))
      → StaysMade m (and_then (save_for s k u) f)
  save_made k u f then' = on (own_instance s) (λ i x d. own_is s i x d)
    where
      by : (p : ℕ × Instance) → slice_get s.instances p.0 ≡ Some p.1 → (b : Bool)
          → StaysMade m (and_then (ok_if b Cause.State (with_left (with_instance s p.0 (record p.1 {
            status = Status.Suspended u s.top.values;
            last_save = Some (record { depth = length s.below; save = k });
          })) true)) f)
      by p e false = tt
      by p e true =
          let c = changed_made m s h p.0 p.1 (record p.1 {
            status = Status.Suspended u s.top.values;
            last_save = Some (record { depth = length s.below; save = k });
          }) e refl refl in
          then' _ (record { stack = c.stack; instances = c.instances })

      on : (o : Option (ℕ × Instance)) → ((i : ℕ) (x : Instance) → o ≡ Some (i, x) → slice_get s.instances i ≡ Some x)
          → StaysMade m (and_then (and_then (found Cause.State o) (λ (i, x).
          ok_if (not x.freed) Cause.State
          (with_left
          (with_instance s i (record x {
            status = Status.Suspended u s.top.values;
            last_save = Some (record { depth = length s.below; save = k });
          })) true))) f)
      on None is = tt
      on (Some p) is = by p (is p.0 p.1 refl) (not p.1.freed)

  suspend_made : (result : Option ℕ) (of_save : Operand) → StaysMade m (suspend s result of_save)
  suspend_made result Operand.None = save_made (point_of s) (point_of s) _ (λ t k. gives_made m t k result _)
  suspend_made result _ = gives_made m s h result _

  end_made : (result : Option ℕ) (close : State → State) → IsMadeState m (close s) → StaysMade m (end_of s close result)
  end_made result close k = on s.top.has_left
    where
      on : (b : Bool) → StaysMade m (after_end (if b then s else close s) result s.top.mode)
      on true = after_made m s result s.top.mode h
      on false = after_made m (close s) result s.top.mode k

-- ---- steps

module _ (hooks : Hooks) (keeps : KeepsMade hooks) (s : State) (r : IsReachedState hooks.given s)
    (h : IsMadeState hooks.given.code s) where
  abbrev m : Module
  m = hooks.given.code

  coro_made : (i : Intrinsic) (args : List Arg) (vs : List Value) (result : Option ℕ)
      → StaysMade hooks.given.code (hooked_coro hooks s i args vs result)
  coro_made Intrinsic.CoroId args vs result = gives_made m s h None Value.Poison
  coro_made Intrinsic.CoroSizeI32 args vs result = gives_made m s h result _
  coro_made Intrinsic.CoroSizeI64 args vs result = gives_made m s h result _
  coro_made Intrinsic.CoroAlignI32 args vs result = gives_made m s h result _
  coro_made Intrinsic.CoroAlignI64 args vs result = gives_made m s h result _
  coro_made Intrinsic.CoroAlloc args vs result = gives_made m s h result _
  coro_made Intrinsic.CoroFrame args vs result = gives_made m s h result _
  coro_made Intrinsic.LifetimeStart args vs result = gives_made m s h None Value.Poison
  coro_made Intrinsic.LifetimeEnd args vs result = gives_made m s h None Value.Poison
  coro_made Intrinsic.MemcpyI64 args vs result = gives_made m s h None Value.Poison
  coro_made Intrinsic.MemcpyI32 args vs result = gives_made m s h None Value.Poison
  coro_made Intrinsic.CoroBegin args vs result = keeps.start s result (nth vs 1) h
  coro_made Intrinsic.CoroFree args vs result = gives_made m (release s)
      (own_changed m s h (λ x. record x { released = true }) (λ x. (refl, refl)) (own_instance s)
      (λ i x e. own_is s i x e)) result (hooks.freed s)
  coro_made Intrinsic.CoroSave args vs result =
      then_made m (found Cause.State (suspend_of (function_of hooks.given s) (point_of s))) _ (λ u eu.
      save_made m s h (point_of s) u _ (λ t k. gives_made m t k None Value.Poison))
  coro_made Intrinsic.CoroSuspend args vs result = suspend_made m s h result (operand_at args 0)
  coro_made Intrinsic.CoroEnd args vs result = end_made m s h result hooks.close (keeps.close s h)
  coro_made Intrinsic.CoroResume args vs result = sleeper_made m s (nth vs 0) _ (λ y there.
      ok_made m _ Cause.State _ (keeps.go_on s y.number y.instance y.suspend y.values _ h there))
  coro_made Intrinsic.CoroDestroy args vs result = sleeper_made m s (nth vs 0) _ (λ y there.
      keeps.go_on s y.number y.instance y.suspend y.values _ h there)
  coro_made Intrinsic.CoroDone args vs result = sleeper_made m s (nth vs 0) _ (λ y there.
      ok_made m _ Cause.State _ (gives_made m s h result _))
  coro_made Intrinsic.CoroPromise args vs result =
      then_made m (hooks.promised s (nth vs 0) (operand_at args 2)) _ (λ v ev. gives_made m s h result v)

  act_made : (x : Fetched) → fetch (function_of hooks.given s) s.top.block s.top.at ≡ x → (a : Action) → Makes x a
      → StaysMade hooks.given.code (hooked_act hooks s a)
  act_made x e (Stuck cause) k = tt
  act_made x e (Done w) k = record { stack = h.stack; instances = h.instances }
  act_made x e (NewSlot w slot) k =
      keeps.place (settled s w) slot
      (record {
        top = record {
          own = r.top.own;
          reached = after (Instr.Alloca slot.alloca k.0 k.1) (e ∙ k.2) r.top.reached;
          entered = r.top.entered;
        };
        below = r.below;
        instances = r.instances;
      })
      (record { block = s.top.block; at = s.top.at; ty = k.0; align = k.1; stands = e ∙ k.2 })
      (record { stack = h.stack; instances = h.instances })
  act_made x e (Enter func args result must_tail) k = record { stack = (tt, h.stack); instances = h.instances }
  act_made x e (Coro i args result) k = coro_made i args (arg_values hooks.given.code s.top.values args) result
  act_made x e (Deallocate p) k =
      let l = let_go_made m s h (instance_at s.instances p) (λ i y d. at_is s.instances p i y d) in
      then_made m (deallocated (if_let_go s (instance_at s.instances p)).world.memory p) _
      (λ memory d. record { stack = l.stack; instances = l.instances })
  act_made x e (GoTo label) k = leaves_made m s h hooks.given label (left_windows hooks.given s label)
  act_made x e (Return v) k = return_made m s v h

  next_made : (x : Fetched) → fetch (function_of hooks.given s) s.top.block s.top.at ≡ x
      → StaysMade hooks.given.code (hooked_next hooks s x)
  next_made x e = on (hooks.is_idle s x) (hooks.given_call s x) refl
    where
      on : (b : Bool) (o : Option (Result State Cause)) → hooks.given_call s x ≡ o
          → StaysMade hooks.given.code (if b then Ok (next s) else unwrap_or o
          (hooked_act hooks s (action_of (hooked_context hooks s) (work_of s) x)))
      on true o d = gives_made m s h None Value.Poison
      on false None d = act_made x e (action_of (hooked_context hooks s) (work_of s) x)
          (step_makes (hooked_context hooks s) (work_of s) x)
      on false (Some c) d = keeps.call s x c d h

  or_made : (c : Result State Cause) → StaysMade hooks.given.code c
      → IsMadeState hooks.given.code (or_undefined hooks.given s c)
  or_made (Err cause) k = record { stack = h.stack; instances = h.instances }
  or_made (Ok t) k = k

  advance_made : (o : Outcome) → IsMadeState hooks.given.code (hooked_advance hooks s o)
  advance_made Outcome.Running =
      let x = fetch (function_of hooks.given s) s.top.block s.top.at in
      or_made (hooked_next hooks s x) (next_made x refl)
  advance_made (Outcome.Returned v) = h
  advance_made (Outcome.Undefined cause place) = h

  pub step_made : IsMadeState hooks.given.code (step_of hooks s)
  step_made = advance_made s.outcome

steps_made : (hooks : Hooks) → KeepsMade hooks → (n : ℕ) (s : State)
    → ((k : ℕ) → IsReachedState hooks.given (iterate (step_of hooks) k s)) → IsMadeState hooks.given.code s
    → IsMadeState hooks.given.code (iterate (step_of hooks) n s)
steps_made hooks keeps zero s reached h = h
steps_made hooks keeps (suc n) s reached h =
    steps_made hooks keeps n (step_of hooks s) (λ k. reached (suc k)) (step_made hooks keeps s (reached 0) h)

pub states_made : (hooks : Hooks) → KeepsMade hooks → (entry : ℕ) (args : List Word)
    → ((k : ℕ) → IsReachedState hooks.given (hooked_state_at hooks entry args k)) → (n : ℕ)
    → IsMadeState hooks.given.code (hooked_state_at hooks entry args n)
states_made hooks keeps entry args reached n =
    steps_made hooks keeps n (first_state hooks.given.code entry args) reached
    (record { stack = (tt, tt); instances = tt })
