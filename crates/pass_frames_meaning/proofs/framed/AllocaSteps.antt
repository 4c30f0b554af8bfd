-- Each step keeps where names of allocas lead.
use Rattle.std.proofs.Common.{◌≡◌, inl, inr, ℕ, Bool, true, false, List, [], ◌∷◌, ◌++◌, length, arith}
use Rattle.std.proofs.Common.{Option, Some, None, Result, Ok, Err, refl, sym, ap, ◌∙◌, subst, if◌then◌else◌, ◌==◌}
use Rattle.std.proofs.lemmas.Bool.{false≢true}
use Rattle.std.specs.Prelude.{not, slice_get, slice_set, unwrap_or}
use Rattle.pass_frames_proof.specs.ir_base.declared.cause.Cause.{Cause}
use Rattle.pass_frames_proof.specs.ir_base.declared.outcome.Outcome.{Outcome}
use Rattle.pass_frames_proof.specs.ir_model.Names.{function_at, position_of}
use Rattle.pass_frames_proof.specs.ir_model.Ty.{Ty}
use Rattle.pass_frames_proof.specs.ir_model.declared.instr.Instr.{Instr}
use Rattle.pass_frames_proof.specs.ir_model.declared.module.Function.{Function}
use Rattle.pass_frames_proof.specs.ir_model.declared.module.Module.{Module}
use Rattle.pass_frames_proof.specs.ir_model.declared.operand.Arg.{Arg}
use Rattle.pass_frames_proof.specs.ir_model.declared.operand.Callee.{Callee}
use Rattle.pass_frames_proof.specs.ir_model.declared.operand.Intrinsic.{Intrinsic}
use Rattle.pass_frames_proof.specs.ir_model.declared.operand.Operand.{Operand}
use Rattle.pass_frames_proof.specs.ir_parts.Contents.{result_of}
use Rattle.pass_frames_proof.specs.ir_paths.Windows.{operand_at, suspend_of}
use Rattle.pass_frames_proof.specs.ir_paths.declared.point.Point.{Point}
use Rattle.pass_frames_proof.specs.ir_paths.declared.point.Window.{Window}
use Rattle.pass_frames_meaning.proofs.called.Comes.{Comes, comes}
use Rattle.pass_frames_meaning.proofs.called.Voids.{void_intrinsic}
use Rattle.pass_frames_meaning.proofs.framed.Allocas.{GivesStay, alike_stay, all_stay, alloca_given}
use Rattle.pass_frames_meaning.proofs.framed.Allocas.{deallocated_stay, disown_stay, entered_allocas, entry_allocas}
use Rattle.pass_frames_meaning.proofs.framed.Allocas.{more_stay, result_allocas, same_allocas, set_asleep}
use Rattle.pass_frames_meaning.proofs.framed.Allocas.{without_stay}
use Rattle.pass_frames_meaning.proofs.led.Names.{alloca_is, of_alloca, set_led}
use Rattle.pass_frames_meaning.specs.Called.{AreBehindCalls, IsBehindCall, IsCalledState, IsCalling}
use Rattle.pass_frames_meaning.specs.Framed.{AreAllocas, AreAllocasAsleep, AreAllocasIn, AreAllocasOn, HasAllocas}
use Rattle.pass_frames_meaning.specs.Framed.{IsNoAlloca, KeepsAllocas, StaysAllocas, is_alloca_in}
use Rattle.pass_frames_meaning.specs.Led.{IsLedBy}
use Rattle.pass_frames_proof.proofs.pass_kept_proof.Same.{eq_from}
use Rattle.pass_frames_proof.specs.pass_kept_proof.Needed.{given_by, given_by_intrinsic}
use Rattle.pass_frames_proof.proofs.pass_renewed_proof.Sets.{step_sets}
use Rattle.pass_frames_proof.specs.pass_renewed_proof.SlotRules.{IsMadeOnce}
use Rattle.pass_frames_proof.specs.pass_renewed_proof.Steps.{SetsOnly}
use Rattle.pass_renewed_meaning.proofs.run_hooks.Reached.{IsOfInstr, at_is, of_term, own_function, own_is}
use Rattle.pass_renewed_meaning.proofs.run_hooks.alive.Acts.{slots_by}
use Rattle.pass_renewed_meaning.specs.run_hooks.Hooks.{Hooks, hooked_act, hooked_advance, hooked_context, hooked_coro, hooked_next, step_of}
use Rattle.pass_renewed_meaning.specs.run_hooks.Reached.{IsReachedState}
use Rattle.pass_frames_proof.specs.run_memory.Memory.{disown}
use Rattle.pass_frames_proof.specs.run_memory.declared.block.MemoryBlock.{MemoryBlock}
use Rattle.pass_frames_proof.specs.run_memory.declared.pointer.Value.{Value}
use Rattle.run_slots.proofs.Blocks.{IsMadeSlot, StaysAlike, step_alike}
use Rattle.run_slots.proofs.Times.{more_last}
use Rattle.pass_frames_proof.specs.run_source.Source.{Sleeper, after_end, branch_leaving, change_own, deallocate, end_of, enter_block}
use Rattle.pass_frames_proof.specs.run_source.Source.{if_let_go, left_windows, let_go, may_be_freed, pop, release, return, returned}
use Rattle.pass_frames_proof.specs.run_source.Source.{save_for, sleeper_at, sleeper_of, suspend}
use Rattle.pass_frames_proof.specs.run_source.State.{function_of, gives, instance_at, next, or_undefined, own_instance, point_of}
use Rattle.pass_frames_proof.specs.run_source.State.{settled, with_instance, with_left, with_memory, work_of}
use Rattle.pass_frames_proof.specs.run_source.declared.state.Activation.{Activation}
use Rattle.pass_frames_proof.specs.run_source.declared.state.Instance.{Instance}
use Rattle.pass_frames_proof.specs.run_source.declared.state.Mode.{Mode}
use Rattle.pass_frames_proof.specs.run_source.declared.state.State.{State}
use Rattle.pass_frames_proof.specs.run_source.declared.state.Status.{Status}
use Rattle.pass_frames_proof.specs.run_source_tables.Given.{Given}
use Rattle.pass_frames_proof.specs.run_step.Results.{and_then, found, ok_if}
use Rattle.pass_frames_proof.specs.run_step.Step.{Action, AtInstr, AtTerm, Coro, Deallocate, Done, Enter, Fetched, GoTo, NewSlot}
use Rattle.pass_frames_proof.specs.run_step.Step.{Nowhere, Return, Stuck, Work, action_of, block_of, deallocated, fetch, instr_action}
use Rattle.pass_frames_proof.specs.run_step.Step.{label_of, outcome_of, term_action, without_slots}
use Rattle.pass_frames_proof.specs.run_step.Values.{Env, arg_values, nth, pointer_to, value_in, with_value}
use Rattle.pass_frames_proof.specs.run_step.declared.world.Slot.{Slot}
use Rattle.pass_renewed_meaning.specs.run_types.Rules.{KeepsAllTypes, KeepsTypes}

-- ---- names of results

no_alloca_call : (result : Option ℕ) (must_tail : Bool) (ty : Option Ty) (callee : Callee) (args : List Arg) (v : ℕ)
    (t : Ty) (align : ℕ) → Instr.Call result must_tail ty callee args ≡ Instr.Alloca v t align → ⊥
no_alloca_call result must_tail ty callee args v t align e = absurd (cc)

-- a call gives no alloca's name
call_free : (f : Function) (block at : ℕ) (result given : Option ℕ) (must_tail : Bool) (ty : Option Ty)
    (callee : Callee) (args : List Arg)
    → fetch f block at ≡ AtInstr (Instr.Call result must_tail ty callee args)
    → given_by (Instr.Call result must_tail ty callee args) ≡ given → IsNoAlloca f given
call_free f block at result given must_tail ty callee args e g v made d =
    let z = alloca_given f block at (Instr.Call result must_tail ty callee args) e v made (g ∙ d) in
    no_alloca_call result must_tail ty callee args v z.0 z.1 z.2

none_free : (f : Function) → IsNoAlloca f None
none_free f v made e = absurd (cc)

-- nor does what a return sets
returned_free : (m : Module) (f : Function) → KeepsTypes m f → (a : Activation) (result : Option ℕ)
    → IsBehindCall f a result → IsNoAlloca f result
returned_free m f types a result c = by c.call c.there c.calls c.gives
  where
    by : (i : Instr) → fetch f a.block c.at ≡ AtInstr i → IsCalling i → result_of i ≡ result → IsNoAlloca f result
    by (Instr.Call r must_tail ty (Callee.Named n) args) stands is gives =
        call_free f a.block c.at r result must_tail ty (Callee.Named n) args stands gives
    by (Instr.Call r must_tail ty (Callee.Local n) args) stands is gives =
        call_free f a.block c.at r result must_tail ty (Callee.Local n) args stands gives
    by (Instr.Call r must_tail ty (Callee.Intrinsic Intrinsic.CoroResume) args) stands is gives =
        subst (IsNoAlloca f) (sym (void_intrinsic m f types a.block c.at r must_tail ty Intrinsic.CoroResume args stands
        refl) ∙ gives) (none_free f)
    by (Instr.Call r must_tail ty (Callee.Intrinsic Intrinsic.CoroDestroy) args) stands is gives =
        subst (IsNoAlloca f) (sym (void_intrinsic m f types a.block c.at r must_tail ty Intrinsic.CoroDestroy args
        stands refl) ∙ gives) (none_free f)
    by _ stands is gives = absurd is

-- ---- parts of a step

module _ (m : Module) where
  then_allocas : {A : Type 0} (r : Result A Cause) (f : A → Result State Cause)
      → ((a : A) → r ≡ Ok a → StaysAllocas m (f a)) → StaysAllocas m (and_then r f)
  then_allocas (Err cause) f k = tt
  then_allocas (Ok a) f k = k a refl

  ok_allocas : (b : Bool) (cause : Cause) (s : State) → HasAllocas m s → StaysAllocas m (ok_if b cause s)
  ok_allocas true cause s k = k
  ok_allocas false cause s k = tt

  pub gives_allocas : (s : State) (result : Option ℕ) (v : Value) → HasAllocas m s
      → IsNoAlloca (function_at m s.top.func) result → HasAllocas m (gives s result v)
  gives_allocas s result v h free = (
    (result_allocas s.world.memory (function_at m s.top.func) s.top.values result v free h.0.0, h.0.1),
    h.1,
  )

  pub enter_allocas : (g : Given) → g.code ≡ m → (s : State) (label : ℕ) → HasAllocas m s
      → HasAllocas m (enter_block g s label)
  enter_allocas g code s label h =
      subst (λ (n : Module). HasAllocas m (enter_block (record g { code = n }) s label)) (sym code) (
        (
          entered_allocas m s.world.memory (function_at m s.top.func) (position_of (function_at m s.top.func) label)
              (label_of (slice_get (function_at m s.top.func).blocks s.top.block)) s.top.values h.0.0,
          h.0.1,
        ),
        h.1,
      )

  return_allocas : KeepsAllTypes m → (s : State) (v : Option Value) → HasAllocas m s
      → AreBehindCalls m s.top.result s.below → StaysAllocas m (return s v)
  return_allocas types s v h c = by s.below dead.0.1 c
    where
      dead : AreAllocasOn m (without_slots s.world.memory s.top.slots) (s.top ∷ s.below)
          × AreAllocasIn m (without_slots s.world.memory s.top.slots) s.instances
      dead = all_stay m s.world.memory (without_slots s.world.memory s.top.slots)
          (without_stay s.world.memory s.top.slots) (s.top ∷ s.below) s.instances h

      by : (below : List Activation) → AreAllocasOn m (without_slots s.world.memory s.top.slots) below
          → AreBehindCalls m s.top.result below → StaysAllocas m (pop (returned s) v below)
      by [] k c = then_allocas (outcome_of v) (λ outcome. Ok (record (returned s) { outcome = outcome }))
          (λ outcome e. dead)
      by (a ∷ below) k c = (
        (
          result_allocas (without_slots s.world.memory s.top.slots) (function_at m a.func) a.values s.top.result
              (unwrap_or v Value.Poison)
              (returned_free m (function_at m a.func) (types a.func) a s.top.result c.0) k.0,
          k.1,
        ),
        dead.1,
      )

  after_allocas : KeepsAllTypes m → (s : State) (result : Option ℕ) (mode : Mode) → HasAllocas m s
      → AreBehindCalls m s.top.result s.below → IsNoAlloca (function_at m s.top.func) result
      → StaysAllocas m (after_end s result mode)
  after_allocas types s result Mode.Resumed h c free = return_allocas types s None h c
  after_allocas types s result _ h c free = gives_allocas s result _ h free

  sleeper_allocas : (s : State) (p : Value) (go : Sleeper → Result State Cause)
      → ((y : Sleeper) → slice_get s.instances y.number ≡ Some y.instance
      → y.instance.status ≡ Status.Suspended y.suspend y.values → StaysAllocas m (go y))
      → StaysAllocas m (and_then (sleeper_at s p) go)
  sleeper_allocas s p go k = on (instance_at s.instances p) (λ j x e. at_is s.instances p j x e)
    where
      by : (i : ℕ) (x : Instance) → slice_get s.instances i ≡ Some x → (st : Status) → x.status ≡ st
          → StaysAllocas m (and_then (sleeper_of i x st) go)
      by i x e Status.Running d = tt
      by i x e (Status.Suspended at vs) d =
          k (record { number = i; instance = x; suspend = at; values = vs }) e d
      by i x e Status.Finished d = tt

      on : (o : Option (ℕ × Instance)) → ((j : ℕ) (x : Instance) → o ≡ Some (j, x) → slice_get s.instances j ≡ Some x)
          → StaysAllocas m (and_then (and_then (found Cause.Frame o) (λ (i, x). sleeper_of i x x.status)) go)
      on None is = tt
      on (Some z) is = by z.0 z.1 (is z.0 z.1 refl) z.1.status refl

  module _ (s : State) (h : HasAllocas m s) where
    -- an instance changes, and what it keeps is told
    pub instance_allocas : (i : ℕ) (y : Instance)
        → AreAllocasAsleep s.world.memory (function_at m y.coroutine) y.status → HasAllocas m (with_instance s i y)
    instance_allocas i y k = (h.0, set_asleep m s.world.memory s.instances i y k h.1)

    released_allocas : HasAllocas m (release s)
    released_allocas = on (own_instance s) (λ i x e. own_is s i x e)
      where
        on : (o : Option (ℕ × Instance))
            → ((i : ℕ) (x : Instance) → o ≡ Some (i, x) → slice_get s.instances i ≡ Some x)
            → HasAllocas m (change_own s (λ x. record x { released = true }) o)
        on None is = h
        on (Some p) is = instance_allocas p.0 (record p.1 { released = true }) (h.1 p.0 p.1 (is p.0 p.1 refl))

    leaves_allocas : (g : Given) → g.code ≡ m → (label : ℕ) (windows : List Window)
        → StaysAllocas m (branch_leaving g s label windows)
    leaves_allocas g code label [] = enter_allocas g code s label h
    leaves_allocas g code label (w ∷ windows) = then_allocas (found Cause.State (own_instance s)) _ (λ p e.
        ok_allocas _ Cause.State _ (enter_allocas g code
        (with_left (with_instance s p.0 (record p.1 { status = Status.Running })) false) label
        (instance_allocas p.0 (record p.1 { status = Status.Running }) tt)))

    freed_allocas : (p : Value) → StaysAllocas m (deallocate s p)
    freed_allocas p = on (instance_at s.instances p) (λ i x e. at_is s.instances p i x e)
      where
        by : (t : State) → HasAllocas m t → StaysAllocas m (and_then (deallocated t.world.memory p)
            (λ (memory : List MemoryBlock). Ok (next (with_memory t memory))))
        by t k = last (deallocated t.world.memory p) (deallocated_stay t.world.memory p)
          where
            last : (r : Result (List MemoryBlock) Cause) → GivesStay t.world.memory r
                → StaysAllocas m (and_then r (λ (memory : List MemoryBlock). Ok (next (with_memory t memory))))
            last (Err cause) b = tt
            last (Ok memory) b = all_stay m t.world.memory memory b (t.top ∷ t.below) t.instances k

        gone : (i : ℕ) (x : Instance) → slice_get s.instances i ≡ Some x → HasAllocas m (let_go s i x)
        gone i x e = all_stay m s.world.memory (disown (without_slots s.world.memory x.slots) x.block)
            (λ n a. disown_stay (without_slots s.world.memory x.slots) x.block n
            (without_stay s.world.memory x.slots n a)) (s.top ∷ s.below)
            (slice_set s.instances i (record x { freed = true }))
            (instance_allocas i (record x { freed = true }) (h.1 i x e))

        freed : (i : ℕ) (x : Instance) → slice_get s.instances i ≡ Some x → (b : Bool)
            → StaysAllocas m (and_then (deallocated (if b then let_go s i x else s).world.memory p)
            (λ (memory : List MemoryBlock). Ok (next (with_memory (if b then let_go s i x else s) memory))))
        freed i x e true = by (let_go s i x) (gone i x e)
        freed i x e false = by s h

        on : (o : Option (ℕ × Instance))
            → ((i : ℕ) (x : Instance) → o ≡ Some (i, x) → slice_get s.instances i ≡ Some x)
            → StaysAllocas m (and_then (deallocated (if_let_go s o).world.memory p)
            (λ (memory : List MemoryBlock). Ok (next (with_memory (if_let_go s o) memory))))
        on None is = by s h
        on (Some q) is = freed q.0 q.1 (is q.0 q.1 refl) (may_be_freed q.1)

-- ---- steps

module _ (hooks : Hooks) (keeps : KeepsAllocas hooks) (types : KeepsAllTypes hooks.given.code) (s : State)
    (r : IsReachedState hooks.given s) (c : IsCalledState hooks.given.code s) (h : HasAllocas hooks.given.code s)
  where
    abbrev m : Module
    m = hooks.given.code

    abbrev f : Function
    f = function_at hooks.given.code s.top.func

    save_allocas : (k u : Point) (go : State → Result State Cause)
        → ((t : State) → HasAllocas hooks.given.code t → t.top.func ≡ s.top.func → StaysAllocas hooks.given.code (go t))
        → StaysAllocas hooks.given.code (and_then (save_for s k u) go)
    save_allocas k u go then' = on (own_instance s) refl
      where
        by : (p : ℕ × Instance) → own_instance s ≡ Some p → (b : Bool)
            → StaysAllocas hooks.given.code (and_then (ok_if b Cause.State
            (with_left (with_instance s p.0 (record p.1 {
              status = Status.Suspended u s.top.values;
              last_save = Some (record { depth = length s.below; save = k });
            })) true)) go)
        by p e false = tt
        by p e true =
            let x : Instance = record p.1 {
              status = Status.Suspended u s.top.values;
              last_save = Some (record { depth = length s.below; save = k });
            } in
            then' _ (instance_allocas m s h p.0 x (subst (λ (func : ℕ). AreAllocas s.world.memory
            (function_at hooks.given.code func) s.top.values)
            (sym (own_function hooks.given s r p.0 p.1 e)) h.0.0)) refl

        on : (o : Option (ℕ × Instance)) → own_instance s ≡ o
            → StaysAllocas hooks.given.code (and_then (and_then (found Cause.State o) (λ (i, x).
            ok_if (not x.freed) Cause.State
            (with_left
            (with_instance s i (record x {
              status = Status.Suspended u s.top.values;
              last_save = Some (record { depth = length s.below; save = k });
            })) true))) go)
        on None e = tt
        on (Some p) e = by p e (not p.1.freed)

    free_in : (t : State) (result : Option ℕ) → t.top.func ≡ s.top.func
        → IsNoAlloca (function_at hooks.given.code s.top.func) result
        → IsNoAlloca (function_at hooks.given.code t.top.func) result
    free_in t result e free =
        subst (λ (func : ℕ). IsNoAlloca (function_at hooks.given.code func) result) (sym e) free

    suspend_allocas : (result : Option ℕ) (of_save : Operand)
        → IsNoAlloca (function_at hooks.given.code s.top.func) result
        → StaysAllocas hooks.given.code (suspend s result of_save)
    suspend_allocas result Operand.None free = save_allocas (point_of s) (point_of s) _
        (λ t k e. gives_allocas m t result _ k (free_in t result e free))
    suspend_allocas result _ free = gives_allocas m s result _ h free

    end_allocas : (result : Option ℕ) → IsNoAlloca (function_at hooks.given.code s.top.func) result
        → StaysAllocas hooks.given.code (end_of s hooks.close result)
    end_allocas result free = on s.top.has_left
      where
        closed : (hooks.close s).top ≡ s.top
        closed = (keeps.closed s).0

        on : (b : Bool)
            → StaysAllocas hooks.given.code (after_end (if b then s else hooks.close s) result s.top.mode)
        on true = after_allocas m types s result s.top.mode h c.below free
        on false = after_allocas m types (hooks.close s) result s.top.mode (keeps.close s h)
            (subst (λ (p : Option ℕ × List Activation). AreBehindCalls hooks.given.code p.0 p.1)
            (λ i. ((sym closed i).result, sym (keeps.closed s).1 i)) c.below)
            (free_in (hooks.close s) result (ap (λ (a : Activation). a.func) closed) free)

    module _ (result : Option ℕ) (must_tail : Bool) (ty : Option Ty) (args : List Arg) (vs : List Value) where
      abbrev Stands : Intrinsic → Type 0
      Stands i = fetch (function_at hooks.given.code s.top.func) s.top.block s.top.at
          ≡ AtInstr (Instr.Call result must_tail ty (Callee.Intrinsic i) args)

      gave : (i : Intrinsic) (v : Value) → Stands i → given_by_intrinsic i result ≡ result
          → HasAllocas hooks.given.code (gives s result v)
      gave i v e g = gives_allocas m s result v h
          (call_free f s.top.block s.top.at result result must_tail ty (Callee.Intrinsic i) args e g)

      passed : HasAllocas hooks.given.code (gives s None Value.Poison)
      passed = gives_allocas m s None Value.Poison h (none_free f)

      coro_allocas : (i : Intrinsic) → Stands i → StaysAllocas hooks.given.code (hooked_coro hooks s i args vs result)
      coro_allocas Intrinsic.CoroId e = passed
      coro_allocas Intrinsic.CoroSizeI32 e = gave Intrinsic.CoroSizeI32 _ e refl
      coro_allocas Intrinsic.CoroSizeI64 e = gave Intrinsic.CoroSizeI64 _ e refl
      coro_allocas Intrinsic.CoroAlignI32 e = gave Intrinsic.CoroAlignI32 _ e refl
      coro_allocas Intrinsic.CoroAlignI64 e = gave Intrinsic.CoroAlignI64 _ e refl
      coro_allocas Intrinsic.CoroAlloc e = gave Intrinsic.CoroAlloc _ e refl
      coro_allocas Intrinsic.CoroFrame e = gave Intrinsic.CoroFrame _ e refl
      coro_allocas Intrinsic.LifetimeStart e = passed
      coro_allocas Intrinsic.LifetimeEnd e = passed
      coro_allocas Intrinsic.MemcpyI64 e = passed
      coro_allocas Intrinsic.MemcpyI32 e = passed
      coro_allocas Intrinsic.CoroBegin e = keeps.start s result (nth vs 1) h
          (call_free f s.top.block s.top.at result result must_tail ty (Callee.Intrinsic Intrinsic.CoroBegin)
          args e refl)
      coro_allocas Intrinsic.CoroFree e = gives_allocas m (release s) result (hooks.freed s)
          (released_allocas m s h)
          (free_in (release s) result (same_func (own_instance s))
          (call_free f s.top.block s.top.at result result must_tail ty (Callee.Intrinsic Intrinsic.CoroFree)
          args e refl))
        where
          same_func : (o : Option (ℕ × Instance))
              → (change_own s (λ x. record x { released = true }) o).top.func ≡ s.top.func
          same_func None = refl
          same_func (Some p) = refl
      coro_allocas Intrinsic.CoroSave e =
          then_allocas m (found Cause.State (suspend_of (function_of hooks.given s) (point_of s))) _ (λ u eu.
          save_allocas (point_of s) u _ (λ t k d. gives_allocas m t None Value.Poison k
          (free_in t None d (none_free f))))
      coro_allocas Intrinsic.CoroSuspend e = suspend_allocas result (operand_at args 0)
          (call_free f s.top.block s.top.at result result must_tail ty (Callee.Intrinsic Intrinsic.CoroSuspend) args e
          refl)
      coro_allocas Intrinsic.CoroEnd e = end_allocas result
          (call_free f s.top.block s.top.at result result must_tail ty (Callee.Intrinsic Intrinsic.CoroEnd) args e refl)
      coro_allocas Intrinsic.CoroResume e = sleeper_allocas m s (nth vs 0) _ (λ y there asleep.
          ok_allocas m _ Cause.State _ (keeps.go_on s y.number y.instance y.suspend y.values _ h there asleep))
      coro_allocas Intrinsic.CoroDestroy e = sleeper_allocas m s (nth vs 0) _ (λ y there asleep.
          keeps.go_on s y.number y.instance y.suspend y.values _ h there asleep)
      coro_allocas Intrinsic.CoroDone e = sleeper_allocas m s (nth vs 0) _ (λ y there asleep.
          ok_allocas m _ Cause.State _ (gave Intrinsic.CoroDone _ e refl))
      coro_allocas Intrinsic.CoroPromise e =
          then_allocas m (hooks.promised s (nth vs 0) (operand_at args 2)) _
          (λ v ev. gave Intrinsic.CoroPromise v e refl)

    -- ---- an instruction

    abbrev Doing : Fetched → Action → Type 0
    Doing x a = action_of (hooked_context hooks s) (work_of s) x ≡ a

    module _ (i : Instr) (e : fetch (function_at hooks.given.code s.top.func) s.top.block s.top.at ≡ AtInstr i) where
      done_allocas : (w : Work) → Doing (AtInstr i) (Done w) → StaysAlike s.world.memory (Done w)
          → HasAllocas hooks.given.code (settled s w)
      done_allocas w d alike =
          let k = all_stay m s.world.memory w.world.memory (alike_stay s.world.memory w.world.memory alike)
          (s.top ∷ s.below) s.instances h in
          ((same_allocas w.world.memory f s.top.values w.values same k.0.0, k.0.1), k.1)
        where
          sets : SetsOnly (given_by i) s.top.values (Done w)
          sets = subst (SetsOnly (given_by i) s.top.values) d
              (step_sets (hooked_context hooks s) (work_of s) (AtInstr i))

          same : (v : ℕ) → IsMadeOnce (function_at hooks.given.code s.top.func) v
              → value_in w.values v ≡ value_in s.top.values v
          same v made = sets v (λ g.
              let z = alloca_given f s.top.block s.top.at i e v made g in
              of_alloca (hooked_context hooks s) (work_of s) v z.1 z.0 (Done w)
              (subst (λ (j : Instr). Doing (AtInstr j) (Done w)) z.2 d))

      slot_allocas : (w : Work) (slot : Slot) → Doing (AtInstr i) (NewSlot w slot)
          → IsMadeSlot s.world.memory w.world.memory slot.block → HasAllocas hooks.given.code (settled s w)
      slot_allocas w slot d l =
          ((top (alloca_is i (slots_by (hooked_context hooks s) (work_of s) i w slot d)), k.0.1), k.1)
        where
          new : is_alloca_in (slice_get w.world.memory slot.block) ≡ true
          new = subst (λ (n : ℕ). is_alloca_in (slice_get w.world.memory n) ≡ true) (sym l.number)
              (alike_stay (s.world.memory ++ l.block ∷ []) w.world.memory l.rest (length s.world.memory)
              (ap is_alloca_in (more_last s.world.memory l.block) ∙ l.made))

          k : AreAllocasOn hooks.given.code w.world.memory (s.top ∷ s.below)
              × AreAllocasIn hooks.given.code w.world.memory s.instances
          k = all_stay m s.world.memory w.world.memory (λ n a.
              alike_stay (s.world.memory ++ l.block ∷ []) w.world.memory l.rest n
              (more_stay s.world.memory l.block n a))
              (s.top ∷ s.below) s.instances h

          sets : SetsOnly (given_by i) s.top.values (NewSlot w slot)
          sets = subst (SetsOnly (given_by i) s.top.values) d
              (step_sets (hooked_context hooks s) (work_of s) (AtInstr i))

          led : (v : ℕ) (x : Value) → IsLedBy (slot ∷ []) v x → (n : ℕ) → block_of x ≡ Some n
              → is_alloca_in (slice_get w.world.memory n) ≡ true
          led v x (inl q) n a =
              let both : Some slot.block ≡ Some n = sym (ap block_of q.1) ∙ a in
              let same : slot.block ≡ n = cc in
              subst (λ (b : ℕ). is_alloca_in (slice_get w.world.memory b) ≡ true) same new
          led v x (inr q) n a = let none : None ≡ Some n = sym (ap block_of q) ∙ a in absurd (cc)

          top : (name : ℕ) × (ty : Ty) × (align : ℕ) × (i ≡ Instr.Alloca name ty align)
              → AreAllocas w.world.memory (function_at hooks.given.code s.top.func) w.values
          top (name, ty, align, is) v n made a = on (name == v) refl
            where
              told : (slot.alloca ≡ name) × (w.values ≡ with_value s.top.values name (pointer_to slot.block))
              told = of_alloca (hooked_context hooks s) (work_of s) name align ty (NewSlot w slot)
                  (subst (λ (z : Instr). Doing (AtInstr z) (NewSlot w slot)) is d)

              other : (name == v) ≡ false → given_by i ≡ Some v → ⊥
              other apart g =
                  let both : Some name ≡ Some v = sym (ap given_by is) ∙ g in
                  let same : name ≡ v = cc in
                  grind arith

              on : (b : Bool) → (name == v) ≡ b → is_alloca_in (slice_get w.world.memory n) ≡ true
              on true same = led name (value_in w.values name)
                  (subst (λ (z : Env). IsLedBy (slot ∷ []) name (value_in z name)) (sym told.1)
                  (set_led s.top.values name slot told.0)) n
                  (ap (λ (u : ℕ). block_of (value_in w.values u)) (eq_from name v same) ∙ a)
              on false apart = k.0.0 v n made (sym (ap block_of (sets v (other apart))) ∙ a)

      instr_allocas : (a : Action) → Comes i a → Doing (AtInstr i) a → StaysAlike s.world.memory a
          → StaysAllocas hooks.given.code (hooked_act hooks s a)
      instr_allocas (Stuck cause) q d l = tt
      instr_allocas (Done w) q d l = done_allocas w d l
      instr_allocas (NewSlot w slot) q d l = keeps.place (settled s w) slot (slot_allocas w slot d l)
      instr_allocas (Enter func args result must_tail) q d l =
          ((entry_allocas s.world.memory (function_at hooks.given.code func) args, h.0), h.1)
      instr_allocas (Coro x args result) q d l =
          coro_allocas result q.0 q.1 args (arg_values hooks.given.code s.top.values args) x (e ∙ ap AtInstr q.2)
      instr_allocas (Deallocate p) q d l = freed_allocas m s h p
      instr_allocas (GoTo label) q d l = absurd q
      instr_allocas (Return v) q d l = absurd q

    term_allocas : (a : Action) → IsOfInstr a ≡ false → StaysAllocas hooks.given.code (hooked_act hooks s a)
    term_allocas (Stuck cause) q = tt
    term_allocas (GoTo label) q = leaves_allocas m s h hooks.given refl label (left_windows hooks.given s label)
    term_allocas (Return v) q = return_allocas m types s v h c.below
    term_allocas (Done w) q = absurd (false≢true (sym q))
    term_allocas (NewSlot w slot) q = absurd (false≢true (sym q))
    term_allocas (Enter func args result must_tail) q = absurd (false≢true (sym q))
    term_allocas (Coro x args result) q = absurd (false≢true (sym q))
    term_allocas (Deallocate p) q = absurd (false≢true (sym q))

    act_allocas : (x : Fetched) → fetch (function_at hooks.given.code s.top.func) s.top.block s.top.at ≡ x
        → StaysAllocas hooks.given.code (hooked_act hooks s (action_of (hooked_context hooks s) (work_of s) x))
    act_allocas Nowhere e = tt
    act_allocas (AtInstr i) e = instr_allocas i e (instr_action (hooked_context hooks s) (work_of s) i)
        (comes (hooked_context hooks s) (work_of s) i) refl
        (step_alike (hooked_context hooks s) (work_of s) (AtInstr i))
    act_allocas (AtTerm t) e = term_allocas (term_action (hooked_context hooks s) (work_of s) t)
        (of_term (hooked_context hooks s) s t)

    next_allocas : (x : Fetched) → fetch (function_at hooks.given.code s.top.func) s.top.block s.top.at ≡ x
        → hooks.given_call s x ≡ None → StaysAllocas hooks.given.code (hooked_next hooks s x)
    next_allocas x e ungiven = on (hooks.is_idle s x) (hooks.given_call s x) ungiven
      where
        on : (b : Bool) (o : Option (Result State Cause)) → o ≡ None
            → StaysAllocas hooks.given.code (if b then Ok (next s) else unwrap_or o
            (hooked_act hooks s (action_of (hooked_context hooks s) (work_of s) x)))
        on true o u = h
        on false None u = act_allocas x e
        on false (Some q) u = absurd (cc)

    or_allocas : (q : Result State Cause) → StaysAllocas hooks.given.code q
        → HasAllocas hooks.given.code (or_undefined hooks.given s q)
    or_allocas (Err cause) k = h
    or_allocas (Ok t) k = k

    advance_allocas : (o : Outcome) → HasAllocas hooks.given.code (hooked_advance hooks s o)
    advance_allocas Outcome.Running =
        let x = fetch (function_of hooks.given s) s.top.block s.top.at in
        or_allocas (hooked_next hooks s x) (next_allocas x refl (keeps.ungiven s s.top.block s.top.at))
    advance_allocas (Outcome.Returned v) = h
    advance_allocas (Outcome.Undefined cause place) = h

    pub step_allocas : HasAllocas hooks.given.code (step_of hooks s)
    step_allocas = advance_allocas s.outcome
