-- Each instance begins in a block that has the printed size of its frame, and has it also where the instance is freed.
use Rattle.std.proofs.Common.{◌≡◌, ◌⊎◌, inl, inr, ◌≤◌, ◌&&◌, ◌==◌, ℕ, zero, suc, Bool, true, false, List, [], ◌∷◌, ◌++◌, length}
use Rattle.std.proofs.Common.{Option, Some, None, Result, Ok, Err, refl, sym, ap, ◌∙◌, subst}
use Rattle.std.proofs.lemmas.Bool.{and_parts, leb-true}
use Rattle.std.proofs.lemmas.Option.{slice_get-map}
use Rattle.std.specs.Prelude.{if◌then◌else◌, is_none, nat_le, not, option_map, slice_get, slice_set}
use Rattle.compiler.specs.ir_base.declared.cause.Cause.{Cause}
use Rattle.compiler.specs.ir_base.declared.outcome.Outcome.{Outcome}
use Rattle.compiler.specs.ir_base.declared.outcome.Word.{Word}
use Rattle.compiler.specs.ir_model.Names.{function_at}
use Rattle.compiler.specs.ir_model.declared.module.Frame.{Frame}
use Rattle.compiler.specs.ir_model.declared.operand.Arg.{Arg}
use Rattle.compiler.specs.ir_model.declared.operand.Intrinsic.{Intrinsic}
use Rattle.compiler.specs.ir_model.declared.operand.Operand.{Operand}
use Rattle.compiler.specs.ir_paths.Windows.{operand_at, suspend_of}
use Rattle.compiler.specs.ir_paths.declared.point.Point.{Point}
use Rattle.compiler.specs.ir_paths.declared.point.Window.{Window}
use Rattle.pass_frames_meaning.proofs.sized.Renewed.{renewed_keeps_sizes}
use Rattle.pass_frames_meaning.proofs.sized.Sized.{step_longer}
use Rattle.pass_frames_meaning.specs.Sized.{sizes_of}
use Rattle.compiler.specs.pass_kept_proof.Kept.{kept}
use Rattle.pass_frames_meaning.specs.pass_renewed_proof.Renewed.{RenewedGiven, is_idle, renew_after, renewed_from, renewed_slot, renewed_step}
use Rattle.pass_frames_meaning.specs.pass_renewed_proof.Renewed.{with_life}
use Rattle.pass_frames_meaning.proofs.run_hooks.Reached.{at_is, own_is}
use Rattle.pass_frames_meaning.proofs.run_hooks.Steps.{renewed_steps, same_runs}
use Rattle.pass_frames_meaning.proofs.run_hooks.alive.Parts.{Here, IsSet, Other, get_set}
use Rattle.pass_frames_meaning.specs.run_hooks.Hooks.{hooked_act, hooked_advance, hooked_context, hooked_coro, hooked_next, step_of}
use Rattle.pass_frames_meaning.specs.run_hooks.Meanings.{renewed_hooks}
use Rattle.compiler.specs.run_memory.Memory.{check, killed, may_be_owned, own, owned_to, start, with_block}
use Rattle.compiler.specs.run_memory.declared.block.Kind.{Kind}
use Rattle.compiler.specs.run_memory.declared.block.MemoryBlock.{MemoryBlock}
use Rattle.compiler.specs.run_memory.declared.pointer.Pointer.{Pointer}
use Rattle.compiler.specs.run_memory.declared.pointer.Value.{Value}
use Rattle.pass_frames_meaning.proofs.run_slots.Times.{more_back, more_last}
use Rattle.compiler.specs.run_source.Source.{Sleeper, after_end, begin, begin_at, begun, branch_leaving, change_own, deallocate}
use Rattle.compiler.specs.run_source.Source.{end_of, finish, first_state, if_let_go, is_among, is_over, kill_late, left_windows}
use Rattle.compiler.specs.run_source.Source.{let_go, may_be_freed, new_instance, new_slot, pop, push, resumed, return}
use Rattle.compiler.specs.run_source.Source.{returned, save_for, sleeper_at, sleeper_of, suspend, with_new_slots}
use Rattle.compiler.specs.run_source.State.{function_of, gives, instance_at, next, or_undefined, own_facts, own_frame}
use Rattle.compiler.specs.run_source.State.{own_instance, point_of, settled, with_instance, with_left, with_memory, with_slots}
use Rattle.compiler.specs.run_source.State.{with_status, work_of}
use Rattle.compiler.specs.run_source.declared.state.Activation.{Activation}
use Rattle.compiler.specs.run_source.declared.state.Instance.{Instance}
use Rattle.compiler.specs.run_source.declared.state.Mode.{Mode}
use Rattle.compiler.specs.run_source.declared.state.State.{State}
use Rattle.compiler.specs.run_source.declared.state.Status.{Status}
use Rattle.compiler.specs.run_source_tables.Given.{Given, frame_of}
use Rattle.compiler.specs.run_step.Results.{and_then, found, ok_if}
use Rattle.compiler.specs.run_step.Runs.{iterate}
use Rattle.compiler.specs.run_step.Step.{Action, Coro, Deallocate, Done, Enter, Fetched, GoTo, NewSlot, Return, Stuck}
use Rattle.compiler.specs.run_step.Step.{action_of, block_of, deallocated, fetch, outcome_of}
use Rattle.compiler.specs.run_step.Values.{arg_values, nth}
use Rattle.compiler.specs.run_step.declared.world.Slot.{Slot}

-- ---- what holds of the coroutine and the block of each instance

module _ (P : ℕ → ℕ → Type 0) where
  abbrev AreBegun : List Instance → Type 0
  AreBegun xs = (i : ℕ) (x : Instance) → slice_get xs i ≡ Some x → P x.coroutine x.block

  abbrev StaysBegun : Result State Cause → Type 0
  StaysBegun (Err cause) = Unit {0}
  StaysBegun (Ok s) = (i : ℕ) (x : Instance) → slice_get s.instances i ≡ Some x → P x.coroutine x.block

  -- an instance changes, but not in these
  changed_begun : (xs : List Instance) → AreBegun xs → (i : ℕ) (x y : Instance) → slice_get xs i ≡ Some x
      → y.coroutine ≡ x.coroutine → y.block ≡ x.block → AreBegun (slice_set xs i y)
  changed_begun xs h i x y e coroutine block j z d = on (get_set xs i y j z d)
    where
      on : IsSet xs i y j z → P z.coroutine z.block
      on (Here a b) = subst (λ (w : Instance). P w.coroutine w.block) (sym b)
          (subst (λ (q : ℕ × ℕ). P q.0 q.1) (λ k. (sym coroutine k, sym block k)) (h i x e))
      on (Other a b) = h j z b

  then_begun : {A : Type 0} (r : Result A Cause) (f : A → Result State Cause)
      → ((a : A) → r ≡ Ok a → StaysBegun (f a)) → StaysBegun (and_then r f)
  then_begun (Err cause) f h = tt
  then_begun (Ok a) f h = h a refl

  ok_begun : (b : Bool) (cause : Cause) (s : State) → AreBegun s.instances → StaysBegun (ok_if b cause s)
  ok_begun true cause s h = h
  ok_begun false cause s h = tt

  own_changed : (s : State) → AreBegun s.instances → (f : Instance → Instance)
      → ((x : Instance) → ((f x).coroutine ≡ x.coroutine) × ((f x).block ≡ x.block)) → (o : Option (ℕ × Instance))
      → ((i : ℕ) (x : Instance) → o ≡ Some (i, x) → slice_get s.instances i ≡ Some x)
      → AreBegun (change_own s f o).instances
  own_changed s h f k None is = h
  own_changed s h f k (Some p) is =
      changed_begun s.instances h p.0 p.1 (f p.1) (is p.0 p.1 refl) (k p.1).0 (k p.1).1

  return_begun : (s : State) → AreBegun s.instances → (v : Option Value) → StaysBegun (return s v)
  return_begun s h v = on s.below
    where
      on : (below : List Activation) → StaysBegun (pop (returned s) v below)
      on [] = then_begun (outcome_of v) _ (λ outcome e. h)
      on (a ∷ below) = h

  after_begun : (s : State) → AreBegun s.instances → (result : Option ℕ) (mode : Mode)
      → StaysBegun (after_end s result mode)
  after_begun s h result Mode.Resumed = return_begun s h None
  after_begun s h result _ = h

  finish_begun : (s : State) → AreBegun s.instances → AreBegun (finish s).instances
  finish_begun s h = own_changed s h (λ x. record x { status = Status.Finished }) (λ x. (refl, refl)) (own_instance s)
      (λ i x e. own_is s i x e)

  end_begun : (s : State) → AreBegun s.instances → (result : Option ℕ) → StaysBegun (end_of s finish result)
  end_begun s h result = on s.top.has_left
    where
      on : (b : Bool) → StaysBegun (after_end (if b then s else finish s) result s.top.mode)
      on true = after_begun s h result s.top.mode
      on false = after_begun (finish s) (finish_begun s h) result s.top.mode

  module _ (s : State) (h : AreBegun s.instances) where
    own_there : (p : ℕ × Instance) → found Cause.State (own_instance s) ≡ Ok p → slice_get s.instances p.0 ≡ Some p.1
    own_there p e = on (own_instance s) (λ i x d. own_is s i x d) e
      where
        on : (o : Option (ℕ × Instance))
            → ((i : ℕ) (x : Instance) → o ≡ Some (i, x) → slice_get s.instances i ≡ Some x)
            → found Cause.State o ≡ Ok p → slice_get s.instances p.0 ≡ Some p.1
        on None is k = absurd (cc)
        on (Some q) is k =
            let same : q ≡ p = cc in
            subst (λ (r : ℕ × Instance). slice_get s.instances r.0 ≡ Some r.1) same (is q.0 q.1 refl)

    leaves_begun : (g : Given) (label : ℕ) (windows : List Window) → StaysBegun (branch_leaving g s label windows)
    leaves_begun g label [] = h
    leaves_begun g label (w ∷ windows) = then_begun (found Cause.State (own_instance s)) _ (λ p e.
        ok_begun _ Cause.State _
        (changed_begun s.instances h p.0 p.1 (record p.1 { status = Status.Running }) (own_there p e) refl refl))

    save_begun : (k u : Point) (f : State → Result State Cause)
        → ((t : State) → AreBegun t.instances → StaysBegun (f t)) → StaysBegun (and_then (save_for s k u) f)
    save_begun k u f then' = on (own_instance s) (λ i x d. own_is s i x d)
      where
        by : (p : ℕ × Instance) → slice_get s.instances p.0 ≡ Some p.1 → (b : Bool)
            → StaysBegun (and_then (ok_if b Cause.State (with_left (with_instance s p.0 (record p.1 {
              status = Status.Suspended u s.top.values;
              last_save = Some (record { depth = length s.below; save = k });
            })) true)) f)
        by p e false = tt
        by p e true = then' _ (changed_begun s.instances h p.0 p.1 (record p.1 {
          status = Status.Suspended u s.top.values;
          last_save = Some (record { depth = length s.below; save = k });
        }) e refl refl)

        on : (o : Option (ℕ × Instance))
            → ((i : ℕ) (x : Instance) → o ≡ Some (i, x) → slice_get s.instances i ≡ Some x)
            → StaysBegun (and_then (and_then (found Cause.State o) (λ (i, x).
            ok_if (not x.freed) Cause.State
            (with_left
            (with_instance s i (record x {
              status = Status.Suspended u s.top.values;
              last_save = Some (record { depth = length s.below; save = k });
            })) true))) f)
        on None is = tt
        on (Some p) is = by p (is p.0 p.1 refl) (not p.1.freed)

    suspend_begun : (result : Option ℕ) (of_save : Operand) → StaysBegun (suspend s result of_save)
    suspend_begun result Operand.None = save_begun (point_of s) (point_of s) _ (λ t k. k)
    suspend_begun result _ = h

    sleeper_begun : (p : Value) (go : Sleeper → Result State Cause)
        → ((y : Sleeper) → slice_get s.instances y.number ≡ Some y.instance → StaysBegun (go y))
        → StaysBegun (and_then (sleeper_at s p) go)
    sleeper_begun p go k = on (instance_at s.instances p) (λ j x e. at_is s.instances p j x e)
      where
        by : (i : ℕ) (x : Instance) → slice_get s.instances i ≡ Some x → (st : Status)
            → StaysBegun (and_then (sleeper_of i x st) go)
        by i x e Status.Running = tt
        by i x e (Status.Suspended at vs) = k (record { number = i; instance = x; suspend = at; values = vs }) e
        by i x e Status.Finished = tt

        on : (o : Option (ℕ × Instance))
            → ((j : ℕ) (x : Instance) → o ≡ Some (j, x) → slice_get s.instances j ≡ Some x)
            → StaysBegun (and_then (and_then (found Cause.Frame o) (λ (i, x). sleeper_of i x x.status)) go)
        on None is = tt
        on (Some z) is = by z.0 z.1 (is z.0 z.1 refl) z.1.status

    frees_begun : (p : Value) → StaysBegun (deallocate s p)
    frees_begun p = on (instance_at s.instances p) (λ j x e. at_is s.instances p j x e)
      where
        by : (t : State) → AreBegun t.instances
            → StaysBegun (and_then (deallocated t.world.memory p) (λ (memory : List MemoryBlock).
            Ok (next (with_memory t memory))))
        by t k = then_begun (deallocated t.world.memory p) _ (λ memory e. k)

        freed : (i : ℕ) (x : Instance) → slice_get s.instances i ≡ Some x → (b : Bool)
            → StaysBegun (and_then (deallocated (if b then let_go s i x else s).world.memory p)
            (λ (memory : List MemoryBlock). Ok (next (with_memory (if b then let_go s i x else s) memory))))
        freed i x e true =
            by (let_go s i x) (changed_begun s.instances h i x (record x { freed = true }) e refl refl)
        freed i x e false = by s h

        on : (o : Option (ℕ × Instance))
            → ((j : ℕ) (x : Instance) → o ≡ Some (j, x) → slice_get s.instances j ≡ Some x)
            → StaysBegun (and_then (deallocated (if_let_go s o).world.memory p)
            (λ (memory : List MemoryBlock). Ok (next (with_memory (if_let_go s o) memory))))
        on None is = by s h
        on (Some q) is = freed q.0 q.1 (is q.0 q.1 refl) (may_be_freed q.1)

  -- ---- what makes slots anew

  renews_begun : (g : RenewedGiven) (s : State) (from label : ℕ) (o : Option Point) → AreBegun s.instances
      → AreBegun (renew_after g s from label o).instances
  renews_begun g s from label None h = h
  renews_begun g s from label (Some p) h = h

  slot_begun : (g : Given) (s : State) (slot : Slot) → AreBegun s.instances → AreBegun (new_slot g s slot).instances
  slot_begun g s slot h = on (own_instance s) (λ i x e. own_is s i x e)
    where
      by : (i : ℕ) (x : Instance) → slice_get s.instances i ≡ Some x → (b : Bool)
          → AreBegun (with_new_slots (own_facts g s).ramp_slots (Some (i, x))
          (if b then with_memory s (killed s.world.memory slot.block) else s) (slot ∷ [])).instances
      by i x e true = changed_begun s.instances h i x _ e refl refl
      by i x e false = changed_begun s.instances h i x _ e refl refl

      on : (o : Option (ℕ × Instance)) → ((i : ℕ) (x : Instance) → o ≡ Some (i, x) → slice_get s.instances i ≡ Some x)
          → AreBegun (with_new_slots (own_facts g s).ramp_slots o
          (kill_late (own_facts g s).ramp_slots o s slot) (slot ∷ [])).instances
      on None is = h
      on (Some (i, x)) is = by i x (is i x refl) (is_over x && not (is_among (own_facts g s).ramp_slots slot))

  place_begun : (g : RenewedGiven) (s : State) (slot : Slot) (mode : Mode) → AreBegun s.instances
      → AreBegun (renewed_slot g s slot mode).instances
  place_begun g s slot (Mode.Entering from label) h =
      renews_begun g (with_slots s (slot ∷ s.top.slots)) from label
      (renewed_from (g.flags s.top.func) (function_of g.given s) s.top.at) h
  place_begun g s slot Mode.Plain h = slot_begun g.given s slot h
  place_begun g s slot Mode.Ramp h = slot_begun g.given s slot h
  place_begun g s slot Mode.Resumed h = slot_begun g.given s slot h
  place_begun g s slot (Mode.GivenRamp frame) h = slot_begun g.given s slot h

  life_begun : (g : RenewedGiven) (s : State) (slot : Slot) (mode : Mode) → AreBegun s.instances
      → AreBegun (renewed_slot g (with_life g s slot) slot mode).instances
  life_begun g s slot mode h = on (g.flags s.top.func slot.alloca)
    where
      on : (b : Bool) → AreBegun (renewed_slot g
          (if b then with_memory s (start s.world.memory slot.block) else s) slot mode).instances
      on true = place_begun g (with_memory s (start s.world.memory slot.block)) slot mode h
      on false = place_begun g s slot mode h

  -- ---- a step, by what begin does

  module _ (g : RenewedGiven) (s : State) (h : AreBegun s.instances)
      (starts : (result : Option ℕ) (memory : Value) → StaysBegun (begin g.given s result memory)) where
    goes_begun : (y : Sleeper) (label : ℕ) → slice_get s.instances y.number ≡ Some y.instance
        → AreBegun ((renewed_hooks g).go_on s y.number y.instance y.suspend y.values label).instances
    goes_begun y label e =
        renews_begun g (push (with_status s y.number y.instance Status.Running)
        (resumed y.number y.instance y.suspend (kept (g.keep y.instance.coroutine y.suspend) y.values))) y.suspend.block
        label (renewed_from (g.flags y.instance.coroutine) (function_at g.given.code y.instance.coroutine) 0)
        (changed_begun s.instances h y.number y.instance (record y.instance { status = Status.Running }) e refl refl)

    coro_begun : (i : Intrinsic) (args : List Arg) (vs : List Value) (result : Option ℕ)
        → StaysBegun (hooked_coro (renewed_hooks g) s i args vs result)
    coro_begun Intrinsic.CoroId args vs result = h
    coro_begun Intrinsic.CoroSizeI32 args vs result = h
    coro_begun Intrinsic.CoroSizeI64 args vs result = h
    coro_begun Intrinsic.CoroAlignI32 args vs result = h
    coro_begun Intrinsic.CoroAlignI64 args vs result = h
    coro_begun Intrinsic.CoroAlloc args vs result = h
    coro_begun Intrinsic.CoroFrame args vs result = h
    coro_begun Intrinsic.LifetimeStart args vs result = h
    coro_begun Intrinsic.LifetimeEnd args vs result = h
    coro_begun Intrinsic.MemcpyI64 args vs result = h
    coro_begun Intrinsic.MemcpyI32 args vs result = h
    coro_begun Intrinsic.CoroBegin args vs result = starts result (nth vs 1)
    coro_begun Intrinsic.CoroFree args vs result =
        own_changed s h (λ x. record x { released = true }) (λ x. (refl, refl)) (own_instance s) (λ i x e. own_is s i x e)
    coro_begun Intrinsic.CoroSave args vs result =
        then_begun (found Cause.State (suspend_of (function_of g.given s) (point_of s))) _ (λ u eu.
        save_begun s h (point_of s) u _ (λ t k. k))
    coro_begun Intrinsic.CoroSuspend args vs result = suspend_begun s h result (operand_at args 0)
    coro_begun Intrinsic.CoroEnd args vs result = end_begun s h result
    coro_begun Intrinsic.CoroResume args vs result = sleeper_begun s h (nth vs 0) _ (λ y there.
        ok_begun _ Cause.State _ (goes_begun y _ there))
    coro_begun Intrinsic.CoroDestroy args vs result = sleeper_begun s h (nth vs 0) _ (λ y there. goes_begun y _ there)
    coro_begun Intrinsic.CoroDone args vs result = sleeper_begun s h (nth vs 0) _ (λ y there. ok_begun _ Cause.State _ h)
    coro_begun Intrinsic.CoroPromise args vs result =
        then_begun ((renewed_hooks g).promised s (nth vs 0) (operand_at args 2)) _ (λ v ev. h)

    act_begun : (a : Action) → StaysBegun (hooked_act (renewed_hooks g) s a)
    act_begun (Stuck cause) = tt
    act_begun (Done w) = h
    act_begun (NewSlot w slot) = life_begun g (settled s w) slot s.top.mode h
    act_begun (Enter func args result must_tail) = h
    act_begun (Coro i args result) = coro_begun i args (arg_values g.given.code s.top.values args) result
    act_begun (Deallocate p) = frees_begun s h p
    act_begun (GoTo label) = leaves_begun s h g.given label (left_windows g.given s label)
    act_begun (Return v) = return_begun s h v

    next_begun : (x : Fetched) → StaysBegun (hooked_next (renewed_hooks g) s x)
    next_begun x = on (is_idle (g.flags s.top.func) x)
      where
        on : (b : Bool) → StaysBegun (if b then Ok (next s) else
            (hooked_act (renewed_hooks g) s (action_of (hooked_context (renewed_hooks g) s) (work_of s) x)))
        on true = h
        on false = act_begun (action_of (hooked_context (renewed_hooks g) s) (work_of s) x)

    or_begun : (r : Result State Cause) → StaysBegun r → AreBegun (or_undefined g.given s r).instances
    or_begun (Err cause) k = h
    or_begun (Ok t) k = k

    advance_begun : (o : Outcome) → AreBegun (hooked_advance (renewed_hooks g) s o).instances
    advance_begun Outcome.Running =
        let x = fetch (function_of g.given s) s.top.block s.top.at in
        or_begun (hooked_next (renewed_hooks g) s x) (next_begun x)
    advance_begun (Outcome.Returned v) = h
    advance_begun (Outcome.Undefined cause place) = h

    step_begun : AreBegun (step_of (renewed_hooks g) s).instances
    step_begun = advance_begun s.outcome

-- ---- a begin, by what holds of its instance

module _ (P : ℕ → ℕ → Type 0) (g : Given) (s : State) (h : AreBegun P s.instances) where
  begun_kept : (memory : List MemoryBlock) (b : ℕ) → P s.top.func b
      → AreBegun P (begun g (with_memory s memory) b 0).instances
  begun_kept memory b room =
      changed_begun P (s.instances ++ new_instance s.top.func b 0 ∷ []) more (length s.instances)
      (new_instance s.top.func b 0) _ (more_last s.instances (new_instance s.top.func b 0)) refl refl
    where
      more : AreBegun P (s.instances ++ new_instance s.top.func b 0 ∷ [])
      more i x e = on (more_back s.instances (new_instance s.top.func b 0) i x e)
        where
          on : (slice_get s.instances i ≡ Some x) ⊎ ((i ≡ length s.instances) × (new_instance s.top.func b 0 ≡ x))
              → P x.coroutine x.block
          on (inl d) = h i x d
          on (inr d) = subst (λ (y : Instance). P y.coroutine y.block) d.1 room

  begin_kept : ((b : ℕ) → P s.top.func b) → (result : Option ℕ) (mem : Value) → StaysBegun P (begin g s result mem)
  begin_kept any result mem = on (is_none s.top.instance)
    where
      placed : (memory : List MemoryBlock) (o : Option ℕ) → StaysBegun P (and_then (and_then (found Cause.Begin o)
          (λ b. Ok (begun g (with_memory s memory) b 0))) (λ z. Ok (gives z result mem)))
      placed memory (Some b) = begun_kept memory b (any b)
      placed memory None = tt

      owned : (o : Result (List MemoryBlock) Cause) → StaysBegun P (and_then (and_then o
          (λ memory. and_then (found Cause.Begin (block_of mem)) (λ b. Ok (begun g (with_memory s memory) b 0))))
          (λ z. Ok (gives z result mem)))
      owned (Ok memory) = placed memory (block_of mem)
      owned (Err cause) = tt

      on : (b : Bool) → StaysBegun P (and_then (ok_if b Cause.Begin s)
          (λ z. and_then (begin_at g z mem Kind.Allocator) (λ z. Ok (gives z result mem))))
      on true = owned (own s.world.memory mem (own_frame g s).size Kind.Allocator)
      on false = tt

-- what holds of each instance of the running function holds of all of them behind a step
pub step_kept : (P : ℕ → ℕ → Type 0) (g : RenewedGiven) (s : State) → AreBegun P s.instances
    → ((b : ℕ) → P s.top.func b) → (i : ℕ) (x : Instance) → slice_get (renewed_step g s).instances i ≡ Some x
    → P x.coroutine x.block
step_kept P g s h any =
    subst (λ (z : State). AreBegun P z.instances) (sym (renewed_steps g s))
    (step_begun P g s h (begin_kept P g.given s h any))

-- ---- sizes of blocks

-- a block has so many bytes
pub record IsRoomy (rows : List (ℕ × ℕ)) (size block : ℕ) : Type 0 where
  pub row : ℕ × ℕ
  pub there : slice_get rows block ≡ Some row
  pub fits : size ≤ row.0

-- that of an instance has its frame's
abbrev pub HasRoom : List Frame → List (ℕ × ℕ) → ℕ → ℕ → Type 0
HasRoom sizes rows coroutine block = IsRoomy rows (frame_of sizes coroutine).size block

abbrev pub AreRoomy : List Frame → State → Type 0
AreRoomy sizes s = (i : ℕ) (x : Instance) → slice_get s.instances i ≡ Some x
    → HasRoom sizes (sizes_of s.world.memory) x.coroutine x.block

own_roomy : (m : List MemoryBlock) (b n : ℕ) → may_be_owned Kind.Allocator n (slice_get m b) ≡ true
    → IsRoomy (sizes_of m) n b
own_roomy m b n e = on (slice_get m b) refl e
  where
    on : (o : Option MemoryBlock) → slice_get m b ≡ o → may_be_owned Kind.Allocator n o ≡ true
        → IsRoomy (sizes_of m) n b
    on None there k = absurd (cc)
    on (Some z) there k = record {
      row = (z.size, z.align);
      there = slice_get-map (λ (y : MemoryBlock). (y.size, y.align)) m b
          ∙ ap (option_map (λ (y : MemoryBlock). (y.size, y.align))) there;
      fits = leb-true n z.size (and_parts _ (nat_le n z.size) k).1;
    }

module _ (g : Given) (s : State) (h : AreRoomy g.sizes s) where
  abbrev P : ℕ → ℕ → Type 0
  P = HasRoom g.sizes (sizes_of s.world.memory)

  begin_roomy : (result : Option ℕ) (mem : Value) → StaysBegun P (begin g s result mem)
  begin_roomy result mem = on (is_none s.top.instance)
    where
      owned : (v : Value) → StaysBegun P (and_then (and_then
          (own s.world.memory v (own_frame g s).size Kind.Allocator)
          (λ memory. and_then (found Cause.Begin (block_of v)) (λ b. Ok (begun g (with_memory s memory) b 0))))
          (λ z. Ok (gives z result mem)))
      owned (Value.Ptr (Pointer.At b o)) =
          by (o.bits == 0) (may_be_owned Kind.Allocator (own_frame g s).size (slice_get s.world.memory b)) refl
        where
          by : (c d : Bool) → may_be_owned Kind.Allocator (own_frame g s).size (slice_get s.world.memory b) ≡ d
              → StaysBegun P (and_then (and_then (check (c && d) Cause.Begin
              (Ok (with_block s.world.memory b (owned_to (own_frame g s).size))))
              (λ memory. and_then (found Cause.Begin (Some b)) (λ b. Ok (begun g (with_memory s memory) b 0))))
              (λ z. Ok (gives z result mem)))
          by true true e = begun_kept P g s h (with_block s.world.memory b (owned_to (own_frame g s).size)) b
              (own_roomy s.world.memory b (own_frame g s).size e)
          by true false e = tt
          by false d e = tt
      owned (Value.Ptr Pointer.Null) = tt
      owned (Value.Ptr (Pointer.Func f)) = tt
      owned (Value.Int w) = tt
      owned Value.Poison = tt

      on : (b : Bool) → StaysBegun P (and_then (ok_if b Cause.Begin s)
          (λ z. and_then (begin_at g z mem Kind.Allocator) (λ z. Ok (gives z result mem))))
      on true = owned mem
      on false = tt

-- ---- runs

step_roomy : (g : RenewedGiven) (s : State) → AreRoomy g.given.sizes s
    → AreRoomy g.given.sizes (step_of (renewed_hooks g) s)
step_roomy g s h i x e =
    let room = step_begun (HasRoom g.given.sizes (sizes_of s.world.memory)) g s h (begin_roomy g.given s h) i x e in
    record {
      row = room.row;
      there = (step_longer (renewed_hooks g) (renewed_keeps_sizes g) s).each x.block room.row room.there;
      fits = room.fits;
    }

steps_roomy : (g : RenewedGiven) (n : ℕ) (s : State) → AreRoomy g.given.sizes s
    → AreRoomy g.given.sizes (iterate (step_of (renewed_hooks g)) n s)
steps_roomy g zero s h = h
steps_roomy g (suc n) s h = steps_roomy g n (step_of (renewed_hooks g) s) (step_roomy g s h)

pub states_roomy : (g : RenewedGiven) (entry : ℕ) (args : List Word) (n : ℕ)
    → AreRoomy g.given.sizes (iterate (renewed_step g) n (first_state g.given.code entry args))
states_roomy g entry args n =
    subst (AreRoomy g.given.sizes)
    (sym (same_runs (renewed_step g) (step_of (renewed_hooks g)) (renewed_steps g) n
    (first_state g.given.code entry args)))
    (steps_roomy g n (first_state g.given.code entry args) (λ i x e. absurd (cc)))
