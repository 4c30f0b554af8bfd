-- Steps by hooks keep what holds of each slot.
use Rattle.std.proofs.Common.{◌≡◌, ℕ, zero, suc, Bool, true, false, List, [], ◌∷◌, ◌++◌, length}
use Rattle.std.proofs.Common.{Option, Some, None, Result, Ok, Err, refl, sym, ◌∙◌, subst}
use Rattle.std.specs.Prelude.{if◌then◌else◌, filter, not, slice_get, slice_set, unwrap_or}
use Rattle.pass_frames_proof.specs.ir_base.declared.cause.Cause.{Cause}
use Rattle.pass_frames_proof.specs.ir_base.declared.outcome.Outcome.{Outcome}
use Rattle.pass_frames_proof.specs.ir_base.declared.outcome.Word.{Word}
use Rattle.pass_frames_proof.specs.ir_model.Layout.{size_of}
use Rattle.pass_frames_proof.specs.ir_model.Names.{function_at}
use Rattle.pass_frames_proof.specs.ir_model.Ty.{Ty}
use Rattle.pass_frames_proof.specs.ir_model.declared.instr.Instr.{Instr}
use Rattle.pass_frames_proof.specs.ir_model.declared.module.Function.{Function}
use Rattle.pass_frames_proof.specs.ir_model.declared.module.Module.{Module}
use Rattle.pass_frames_proof.specs.ir_model.declared.operand.Allocator.{Allocator}
use Rattle.pass_frames_proof.specs.ir_model.declared.operand.Arg.{Arg}
use Rattle.pass_frames_proof.specs.ir_model.declared.operand.Callee.{Callee}
use Rattle.pass_frames_proof.specs.ir_model.declared.operand.Intrinsic.{Intrinsic}
use Rattle.pass_frames_proof.specs.ir_model.declared.operand.Operand.{Operand}
use Rattle.pass_frames_proof.specs.ir_paths.Windows.{operand_at, suspend_of}
use Rattle.pass_frames_proof.specs.ir_paths.declared.point.Point.{Point}
use Rattle.pass_frames_proof.specs.ir_paths.declared.point.Window.{Window}
use Rattle.pass_frames_proof.specs.pass_kept_proof.Needed.{after}
use Rattle.pass_renewed_meaning.proofs.run_hooks.Reached.{at_is, own_is}
use Rattle.pass_renewed_meaning.specs.run_hooks.Hooks.{Hooks, hooked_act, hooked_advance, hooked_context, hooked_coro, hooked_next}
use Rattle.pass_renewed_meaning.specs.run_hooks.Hooks.{hooked_state_at, step_of}
use Rattle.pass_renewed_meaning.specs.run_hooks.Reached.{IsReachedState}
use Rattle.pass_frames_proof.proofs.run_laws.embedded.Refills.{step_only}
use Rattle.pass_frames_proof.specs.run_laws.embedded.Refilled.{OnlyRefills}
use Rattle.pass_frames_proof.specs.run_memory.declared.block.MemoryBlock.{MemoryBlock}
use Rattle.pass_frames_proof.specs.run_memory.declared.pointer.Value.{Value}
use Rattle.pass_frames_meaning.specs.Sized.{AreSlotwise, AreSlotwiseIn, AreSlotwiseOn, IsSlotwise, KeepsSlotwise}
use Rattle.pass_frames_meaning.specs.Sized.{StaysSlotwise}
use Rattle.pass_frames_proof.specs.run_source.Source.{Sleeper, after_end, branch_leaving, change_own, end_of, if_let_go}
use Rattle.pass_frames_proof.specs.run_source.Source.{first_state, left_windows, let_go, may_be_freed, pop, release, return, returned}
use Rattle.pass_frames_proof.specs.run_source.Source.{save_for, sleeper_at, sleeper_of, suspend}
use Rattle.pass_frames_proof.specs.run_source.State.{function_of, gives, instance_at, next, or_undefined, own_instance, point_of}
use Rattle.pass_frames_proof.specs.run_source.State.{settled, with_instance, with_left, work_of}
use Rattle.pass_frames_proof.specs.run_source.declared.state.Activation.{Activation}
use Rattle.pass_frames_proof.specs.run_source.declared.state.Instance.{Instance}
use Rattle.pass_frames_proof.specs.run_source.declared.state.Mode.{Mode}
use Rattle.pass_frames_proof.specs.run_source.declared.state.State.{State}
use Rattle.pass_frames_proof.specs.run_source.declared.state.Status.{Status}
use Rattle.pass_frames_proof.specs.run_source_tables.Given.{Given}
use Rattle.pass_frames_proof.specs.run_step.Results.{and_then, found, ok_if}
use Rattle.pass_frames_proof.specs.run_step.Runs.{iterate}
use Rattle.pass_frames_proof.specs.run_step.Step.{Action, AtInstr, AtTerm, Context, Coro, Deallocate, Done, Enter, Fetched, GoTo}
use Rattle.pass_frames_proof.specs.run_step.Step.{NewSlot, Nowhere, Return, Stuck, Work, action_of, alloca, deallocated, fetch}
use Rattle.pass_frames_proof.specs.run_step.Step.{is_alignment, outcome_of, with_length}
use Rattle.pass_frames_proof.specs.run_step.Values.{arg_values, nth}
use Rattle.pass_frames_proof.specs.run_step.declared.world.Slot.{Slot}

module _ (W : Function → Slot → Type 0) where
  -- ---- lists

  pub kept_joined : (f : Function) (a b : List Slot) → AreSlotwise W f a → AreSlotwise W f b → AreSlotwise W f (a ++ b)
  kept_joined f [] b h k = k
  kept_joined f (s ∷ a) b h k = (h.0, kept_joined f a b h.1 k)

  pub kept_filtered : (f : Function) (p : Slot → Bool) (ss : List Slot) → AreSlotwise W f ss
      → AreSlotwise W f (filter p ss)
  kept_filtered f p [] h = tt
  kept_filtered f p (s ∷ ss) h = on (p s) (kept_filtered f p ss h.1)
    where
      on : (b : Bool) → AreSlotwise W f (filter p ss) → AreSlotwise W f (if b then s ∷ filter p ss else filter p ss)
      on true k = (h.0, k)
      on false k = k

  pub kept_at : (m : Module) (xs : List Instance) (i : ℕ) (x : Instance) → slice_get xs i ≡ Some x
      → AreSlotwiseIn W m xs
      → AreSlotwise W (function_at m x.coroutine) x.slots
  kept_at m [] i x e h = absurd (cc)
  kept_at m (y ∷ xs) zero x e h =
      let same : y ≡ x = cc in subst (λ (z : Instance). AreSlotwise W (function_at m z.coroutine) z.slots) same h.0
  kept_at m (y ∷ xs) (suc i) x e h = kept_at m xs i x e h.1

  pub kept_set : (m : Module) (xs : List Instance) (i : ℕ) (y : Instance)
      → AreSlotwise W (function_at m y.coroutine) y.slots
      → AreSlotwiseIn W m xs → AreSlotwiseIn W m (slice_set xs i y)
  kept_set m [] i y k h = tt
  kept_set m (x ∷ xs) zero y k h = (k, h.1)
  kept_set m (x ∷ xs) (suc i) y k h = (h.0, kept_set m xs i y k h.1)

  pub kept_more : (m : Module) (xs : List Instance) (y : Instance) → AreSlotwise W (function_at m y.coroutine) y.slots
      → AreSlotwiseIn W m xs → AreSlotwiseIn W m (xs ++ y ∷ [])
  kept_more m [] y k h = (k, tt)
  kept_more m (x ∷ xs) y k h = (h.0, kept_more m xs y k h.1)

  -- ---- an alloca makes the slot

  -- a new slot comes of an alloca of its name
  abbrev pub Makes : Fetched → Action → Type 0
  Makes x (NewSlot w slot) = (ty : Ty) × (align : ℕ) × (x ≡ AtInstr (Instr.Alloca slot.alloca ty align))
  Makes x _ = Unit {0}

  -- what holds of a slot that is made
  abbrev pub Fresh : Function → Action → Type 0
  Fresh f (NewSlot w slot) = W f slot
  Fresh f _ = Unit {0}

  -- ---- parts of a step

  then_kept : {A : Type 0} (m : Module) (r : Result A Cause) (f : A → Result State Cause)
      → ((a : A) → r ≡ Ok a → StaysSlotwise W m (f a)) → StaysSlotwise W m (and_then r f)
  then_kept m (Err cause) f h = tt
  then_kept m (Ok a) f h = h a refl

  ok_kept : (m : Module) (b : Bool) (cause : Cause) (s : State) → IsSlotwise W m s → StaysSlotwise W m (ok_if b cause s)
  ok_kept m true cause s h = h
  ok_kept m false cause s h = tt

  module _ (m : Module) (s : State) (h : IsSlotwise W m s) where
    gives_kept : (result : Option ℕ) (v : Value) → IsSlotwise W m (gives s result v)
    gives_kept result v = record { stack = h.stack; instances = h.instances }

    -- an instance changes, but not in its slots
    pub changed_kept : (i : ℕ) (x y : Instance) → slice_get s.instances i ≡ Some x → y.coroutine ≡ x.coroutine
        → y.slots ≡ x.slots → IsSlotwise W m (with_instance s i y)
    changed_kept i x y e coroutine slots = record {
      stack = h.stack;
      instances = kept_set m s.instances i y
          (subst (λ (k : ℕ). AreSlotwise W (function_at m k) y.slots) (sym coroutine)
          (subst (AreSlotwise W (function_at m x.coroutine)) (sym slots) (kept_at m s.instances i x e h.instances)))
          h.instances;
    }

    pub own_changed : (f : Instance → Instance)
        → ((x : Instance) → ((f x).coroutine ≡ x.coroutine) × ((f x).slots ≡ x.slots)) → (o : Option (ℕ × Instance))
        → ((i : ℕ) (x : Instance) → o ≡ Some (i, x) → slice_get s.instances i ≡ Some x)
        → IsSlotwise W m (change_own s f o)
    own_changed f k None is = h
    own_changed f k (Some p) is = changed_kept p.0 p.1 (f p.1) (is p.0 p.1 refl) (k p.1).0 (k p.1).1

    pop_kept : (v : Option Value) (below : List Activation) → AreSlotwiseOn W m below
        → StaysSlotwise W m (pop s v below)
    pop_kept v [] k = then_kept m (outcome_of v) _ (λ outcome e. record { stack = h.stack; instances = h.instances })
    pop_kept v (a ∷ below) k = record { stack = (k.0, k.1); instances = h.instances }

  return_kept : (m : Module) (s : State) (v : Option Value) → IsSlotwise W m s → StaysSlotwise W m (return s v)
  return_kept m s v h =
      pop_kept m (returned s) (record { stack = (tt, h.stack.1); instances = h.instances }) v s.below h.stack.1

  after_kept : (m : Module) (s : State) (result : Option ℕ) (mode : Mode) → IsSlotwise W m s
      → StaysSlotwise W m (after_end s result mode)
  after_kept m s result Mode.Resumed h = return_kept m s None h
  after_kept m s result _ h = gives_kept m s h result _

  sleeper_kept : (m : Module) (s : State) (p : Value) (go : Sleeper → Result State Cause)
      → ((y : Sleeper) → slice_get s.instances y.number ≡ Some y.instance → StaysSlotwise W m (go y))
      → StaysSlotwise W m (and_then (sleeper_at s p) go)
  sleeper_kept m s p go k = on (instance_at s.instances p) (λ j x e. at_is s.instances p j x e)
    where
      by : (i : ℕ) (x : Instance) → slice_get s.instances i ≡ Some x → (st : Status)
          → StaysSlotwise W m (and_then (sleeper_of i x st) go)
      by i x e Status.Running = tt
      by i x e (Status.Suspended at vs) = k (record { number = i; instance = x; suspend = at; values = vs }) e
      by i x e Status.Finished = tt

      on : (o : Option (ℕ × Instance)) → ((j : ℕ) (x : Instance) → o ≡ Some (j, x) → slice_get s.instances j ≡ Some x)
          → StaysSlotwise W m (and_then (and_then (found Cause.Frame o) (λ (i, x). sleeper_of i x x.status)) go)
      on None is = tt
      on (Some z) is = by z.0 z.1 (is z.0 z.1 refl) z.1.status

  module _ (m : Module) (s : State) (h : IsSlotwise W m s) where
    let_go_kept : (o : Option (ℕ × Instance))
        → ((i : ℕ) (x : Instance) → o ≡ Some (i, x) → slice_get s.instances i ≡ Some x) → IsSlotwise W m (if_let_go s o)
    let_go_kept None is = h
    let_go_kept (Some p) is = on (may_be_freed p.1)
      where
        on : (b : Bool) → IsSlotwise W m (if b then let_go s p.0 p.1 else s)
        on true =
            let k = changed_kept m s h p.0 p.1 (record p.1 { freed = true }) (is p.0 p.1 refl) refl refl in
            record { stack = k.stack; instances = k.instances }
        on false = h

    own_there : (p : ℕ × Instance) → found Cause.State (own_instance s) ≡ Ok p → slice_get s.instances p.0 ≡ Some p.1
    own_there p e = on (own_instance s) (λ i x d. own_is s i x d) e
      where
        on : (o : Option (ℕ × Instance)) → ((i : ℕ) (x : Instance) → o ≡ Some (i, x) → slice_get s.instances i ≡ Some x)
            → found Cause.State o ≡ Ok p → slice_get s.instances p.0 ≡ Some p.1
        on None is k = absurd (cc)
        on (Some q) is k =
            let same : q ≡ p = cc in
            subst (λ (r : ℕ × Instance). slice_get s.instances r.0 ≡ Some r.1) same (is q.0 q.1 refl)

    leaves_kept : (g : Given) (label : ℕ) (windows : List Window) → StaysSlotwise W m (branch_leaving g s label windows)
    leaves_kept g label [] = record { stack = h.stack; instances = h.instances }
    leaves_kept g label (w ∷ windows) = then_kept m (found Cause.State (own_instance s)) _ (λ p e.
        let k = changed_kept m s h p.0 p.1 (record p.1 { status = Status.Running }) (own_there p e) refl refl in
        ok_kept m _ Cause.State _ (record { stack = k.stack; instances = k.instances }))

    save_kept : (k u : Point) (f : State → Result State Cause) → ((t : State) → IsSlotwise W m t
        → StaysSlotwise W m (f t))
        → StaysSlotwise W m (and_then (save_for s k u) f)
    save_kept k u f then' = on (own_instance s) (λ i x d. own_is s i x d)
      where
        by : (p : ℕ × Instance) → slice_get s.instances p.0 ≡ Some p.1 → (b : Bool)
            → StaysSlotwise W m (and_then (ok_if b Cause.State (with_left (with_instance s p.0 (record p.1 {
              status = Status.Suspended u s.top.values;
              last_save = Some (record { depth = length s.below; save = k });
            })) true)) f)
        by p e false = tt
        by p e true =
            let c = changed_kept m s h p.0 p.1 (record p.1 {
              status = Status.Suspended u s.top.values;
              last_save = Some (record { depth = length s.below; save = k });
            }) e refl refl in
            then' _ (record { stack = c.stack; instances = c.instances })

        on : (o : Option (ℕ × Instance)) → ((i : ℕ) (x : Instance) → o ≡ Some (i, x) → slice_get s.instances i ≡ Some x)
            → StaysSlotwise W m (and_then (and_then (found Cause.State o) (λ (i, x).
            ok_if (not x.freed) Cause.State
            (with_left
            (with_instance s i (record x {
              status = Status.Suspended u s.top.values;
              last_save = Some (record { depth = length s.below; save = k });
            })) true))) f)
        on None is = tt
        on (Some p) is = by p (is p.0 p.1 refl) (not p.1.freed)

    suspend_kept : (result : Option ℕ) (of_save : Operand) → StaysSlotwise W m (suspend s result of_save)
    suspend_kept result Operand.None = save_kept (point_of s) (point_of s) _ (λ t k. gives_kept m t k result _)
    suspend_kept result _ = gives_kept m s h result _

    end_kept : (result : Option ℕ) (close : State → State) → IsSlotwise W m (close s)
        → StaysSlotwise W m (end_of s close result)
    end_kept result close k = on s.top.has_left
      where
        on : (b : Bool) → StaysSlotwise W m (after_end (if b then s else close s) result s.top.mode)
        on true = after_kept m s result s.top.mode h
        on false = after_kept m (close s) result s.top.mode k

  -- ---- steps

  module _ (hooks : Hooks) (keeps : KeepsSlotwise W hooks) (s : State) (r : IsReachedState hooks.given s)
      (h : IsSlotwise W hooks.given.code s) where
    abbrev m : Module
    m = hooks.given.code

    coro_kept : (i : Intrinsic) (args : List Arg) (vs : List Value) (result : Option ℕ)
        → StaysSlotwise W hooks.given.code (hooked_coro hooks s i args vs result)
    coro_kept Intrinsic.CoroId args vs result = gives_kept m s h None Value.Poison
    coro_kept Intrinsic.CoroSizeI32 args vs result = gives_kept m s h result _
    coro_kept Intrinsic.CoroSizeI64 args vs result = gives_kept m s h result _
    coro_kept Intrinsic.CoroAlignI32 args vs result = gives_kept m s h result _
    coro_kept Intrinsic.CoroAlignI64 args vs result = gives_kept m s h result _
    coro_kept Intrinsic.CoroAlloc args vs result = gives_kept m s h result _
    coro_kept Intrinsic.CoroFrame args vs result = gives_kept m s h result _
    coro_kept Intrinsic.LifetimeStart args vs result = gives_kept m s h None Value.Poison
    coro_kept Intrinsic.LifetimeEnd args vs result = gives_kept m s h None Value.Poison
    coro_kept Intrinsic.MemcpyI64 args vs result = gives_kept m s h None Value.Poison
    coro_kept Intrinsic.MemcpyI32 args vs result = gives_kept m s h None Value.Poison
    coro_kept Intrinsic.CoroBegin args vs result = keeps.start s result (nth vs 1) h
    coro_kept Intrinsic.CoroFree args vs result = gives_kept m (release s)
        (own_changed m s h (λ x. record x { released = true }) (λ x. (refl, refl)) (own_instance s)
        (λ i x e. own_is s i x e)) result (hooks.freed s)
    coro_kept Intrinsic.CoroSave args vs result =
        then_kept m (found Cause.State (suspend_of (function_of hooks.given s) (point_of s))) _ (λ u eu.
        save_kept m s h (point_of s) u _ (λ t k. gives_kept m t k None Value.Poison))
    coro_kept Intrinsic.CoroSuspend args vs result = suspend_kept m s h result (operand_at args 0)
    coro_kept Intrinsic.CoroEnd args vs result = end_kept m s h result hooks.close (keeps.close s h)
    coro_kept Intrinsic.CoroResume args vs result = sleeper_kept m s (nth vs 0) _ (λ y there.
        ok_kept m _ Cause.State _ (keeps.go_on s y.number y.instance y.suspend y.values _ h there))
    coro_kept Intrinsic.CoroDestroy args vs result = sleeper_kept m s (nth vs 0) _ (λ y there.
        keeps.go_on s y.number y.instance y.suspend y.values _ h there)
    coro_kept Intrinsic.CoroDone args vs result = sleeper_kept m s (nth vs 0) _ (λ y there.
        ok_kept m _ Cause.State _ (gives_kept m s h result _))
    coro_kept Intrinsic.CoroPromise args vs result =
        then_kept m (hooks.promised s (nth vs 0) (operand_at args 2)) _ (λ v ev. gives_kept m s h result v)

    pub act_slotwise : (x : Fetched) → fetch (function_of hooks.given s) s.top.block s.top.at ≡ x → (a : Action)
        → Makes x a → Fresh (function_of hooks.given s) a → StaysSlotwise W hooks.given.code (hooked_act hooks s a)
    act_slotwise x e (Stuck cause) k new = tt
    act_slotwise x e (Done w) k new = record { stack = h.stack; instances = h.instances }
    act_slotwise x e (NewSlot w slot) k new =
        keeps.place (settled s w) slot
        (record {
          top = record {
            own = r.top.own;
            reached = after (Instr.Alloca slot.alloca k.0 k.1) (e ∙ k.2) r.top.reached;
            entered = r.top.entered;
          };
          below = r.below;
          instances = r.instances;
        })
        new
        (record { stack = h.stack; instances = h.instances })
    act_slotwise x e (Enter func args result must_tail) k new = record {
      stack =
          (tt, h.stack);
      instances = h.instances;
    }
    act_slotwise x e (Coro i args result) k new = coro_kept i args
        (arg_values hooks.given.code s.top.values args) result
    act_slotwise x e (Deallocate p) k new =
        let l = let_go_kept m s h (instance_at s.instances p) (λ i y d. at_is s.instances p i y d) in
        then_kept m (deallocated (if_let_go s (instance_at s.instances p)).world.memory p) _
        (λ memory d. record { stack = l.stack; instances = l.instances })
    act_slotwise x e (GoTo label) k new = leaves_kept m s h hooks.given label (left_windows hooks.given s label)
    act_slotwise x e (Return v) k new = return_kept m s v h
