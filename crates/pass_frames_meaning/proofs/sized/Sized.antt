-- Each step keeps the sizes of blocks, and slots with their allocas' sizes.
use Rattle.std.proofs.Common.{◌≡◌, ℕ, zero, suc, Bool, true, false, List, [], ◌∷◌, length, Option, Some, None, Result}
use Rattle.std.proofs.Common.{Ok, Err}
use Rattle.std.proofs.Common.{refl, sym, ap, ◌∙◌, subst}
use Rattle.std.specs.Prelude.{if◌then◌else◌, not, slice_get, unwrap_or}
use Rattle.pass_frames_proof.specs.ir_base.declared.cause.Cause.{Cause}
use Rattle.pass_frames_proof.specs.ir_base.declared.outcome.Outcome.{Outcome}
use Rattle.pass_frames_proof.specs.ir_base.declared.outcome.Word.{Word}
use Rattle.pass_frames_proof.specs.ir_model.Layout.{size_of}
use Rattle.pass_frames_proof.specs.ir_model.Names.{function_at}
use Rattle.pass_frames_proof.specs.ir_model.declared.instr.Instr.{Instr}
use Rattle.pass_frames_proof.specs.ir_model.declared.module.Function.{Function}
use Rattle.pass_frames_proof.specs.ir_model.declared.module.Module.{Module}
use Rattle.pass_frames_proof.specs.ir_model.declared.operand.Arg.{Arg}
use Rattle.pass_frames_proof.specs.ir_model.declared.operand.Intrinsic.{Intrinsic}
use Rattle.pass_frames_proof.specs.ir_model.declared.operand.Operand.{Operand}
use Rattle.pass_frames_proof.specs.ir_paths.Windows.{operand_at, suspend_of}
use Rattle.pass_frames_proof.specs.ir_paths.declared.point.Point.{Point}
use Rattle.pass_frames_proof.specs.ir_paths.declared.point.Window.{Window}
use Rattle.pass_frames_meaning.proofs.sized.Memory.{GivesSized, KeepSizes, deallocated_keeps, disown_keeps}
use Rattle.pass_frames_meaning.proofs.sized.Memory.{more_sizes, same_sizes}
use Rattle.pass_frames_meaning.proofs.sized.Memory.{GivesSizes, step_sized, without_keeps}
use Rattle.pass_frames_meaning.proofs.sized.Slotwise.{act_slotwise}
use Rattle.pass_frames_meaning.specs.Sized.{AreSlotwise, AreSlotwiseIn, AreSlotwiseOn, IsLonger, IsSizedAt}
use Rattle.pass_frames_meaning.specs.Sized.{IsSizedState}
use Rattle.pass_frames_meaning.specs.Sized.{IsSlotwise, KeepsSizes, KeepsSlotwise, StaysLonger, StaysSlotwise, sizes_of}
use Rattle.pass_frames_proof.specs.pass_kept_proof.Needed.{after}
use Rattle.pass_renewed_meaning.specs.run_hooks.Hooks.{Hooks, hooked_act, hooked_advance, hooked_context, hooked_coro, hooked_next}
use Rattle.pass_renewed_meaning.specs.run_hooks.Hooks.{hooked_state_at, step_of}
use Rattle.pass_renewed_meaning.specs.run_hooks.Reached.{IsReachedState}
use Rattle.pass_frames_proof.specs.run_memory.Memory.{disown}
use Rattle.pass_frames_proof.specs.run_memory.declared.block.MemoryBlock.{MemoryBlock}
use Rattle.pass_frames_proof.specs.run_memory.declared.pointer.Value.{Value}
use Rattle.pass_frames_proof.specs.run_source.Source.{Sleeper, after_end, branch_leaving, change_own, end_of, if_let_go}
use Rattle.pass_frames_proof.specs.run_source.Source.{first_state, left_windows, let_go, may_be_freed, pop, release, return, returned}
use Rattle.pass_frames_proof.specs.run_source.Source.{save_for, sleeper_at, sleeper_of, suspend}
use Rattle.pass_frames_proof.specs.run_source.State.{function_of, gives, instance_at, next, or_undefined, own_instance, point_of}
use Rattle.pass_frames_proof.specs.run_source.State.{settled, with_instance, with_left, with_memory, work_of}
use Rattle.pass_frames_proof.specs.run_source.declared.state.Activation.{Activation}
use Rattle.pass_frames_proof.specs.run_source.declared.state.Instance.{Instance}
use Rattle.pass_frames_proof.specs.run_source.declared.state.Mode.{Mode}
use Rattle.pass_frames_proof.specs.run_source.declared.state.State.{State}
use Rattle.pass_frames_proof.specs.run_source.declared.state.Status.{Status}
use Rattle.pass_frames_proof.specs.run_source_tables.Given.{Given}
use Rattle.pass_frames_proof.specs.run_step.Results.{and_then, found, ok_if}
use Rattle.pass_frames_proof.specs.run_step.Runs.{iterate}
use Rattle.pass_frames_proof.specs.run_step.Step.{Action, AtInstr, Coro, Deallocate, Done, Enter, Fetched, GoTo, NewSlot, Return, Stuck}
use Rattle.pass_frames_proof.specs.run_step.Step.{action_of, deallocated, fetch, outcome_of, without_slots}
use Rattle.pass_frames_proof.specs.run_step.Values.{arg_values, nth}
use Rattle.pass_frames_proof.specs.run_step.declared.world.Slot.{Slot}

-- ---- parts of a step that leave memory

module _ (t : List (ℕ × ℕ)) where
  abbrev Stays : Result State Cause → Type 0
  Stays r = StaysLonger t r

  then_longer : {A : Type 0} (r : Result A Cause) (f : A → Result State Cause) → ((a : A) → Stays (f a))
      → Stays (and_then r f)
  then_longer (Err cause) f h = tt
  then_longer (Ok a) f h = h a

  ok_longer : (b : Bool) (cause : Cause) (s : State) → IsLonger t (sizes_of s.world.memory) → Stays (ok_if b cause s)
  ok_longer true cause s h = h
  ok_longer false cause s h = tt

  change_longer : (s : State) (f : Instance → Instance) (o : Option (ℕ × Instance))
      → IsLonger t (sizes_of s.world.memory)
      → IsLonger t (sizes_of (change_own s f o).world.memory)
  change_longer s f None h = h
  change_longer s f (Some (i, x)) h = h

  return_longer : (s : State) (v : Option Value) → IsLonger t (sizes_of s.world.memory) → Stays (return s v)
  return_longer s v h = on s.below
    where
      k : IsLonger t (sizes_of (without_slots s.world.memory s.top.slots))
      k = more_sizes t (sizes_of s.world.memory) (sizes_of (without_slots s.world.memory s.top.slots)) h
          (without_keeps s.world.memory s.top.slots)

      on : (below : List Activation) → Stays (pop (returned s) v below)
      on [] = then_longer (outcome_of v) _ (λ outcome. k)
      on (a ∷ below) = k

  after_longer : (s : State) (result : Option ℕ) (mode : Mode) → IsLonger t (sizes_of s.world.memory)
      → Stays (after_end s result mode)
  after_longer s result Mode.Resumed h = return_longer s None h
  after_longer s result _ h = h

  save_longer : (s : State) (k u : Point) (f : State → Result State Cause) → IsLonger t (sizes_of s.world.memory)
      → ((z : State) → IsLonger t (sizes_of z.world.memory) → Stays (f z)) → Stays (and_then (save_for s k u) f)
  save_longer s k u f h next = on (own_instance s)
    where
      by : (p : ℕ × Instance) (b : Bool)
          → Stays (and_then (ok_if b Cause.State (with_left (with_instance s p.0 (record p.1 {
            status = Status.Suspended u s.top.values;
            last_save = Some (record { depth = length s.below; save = k });
          })) true)) f)
      by p true = next _ h
      by p false = tt

      on : (o : Option (ℕ × Instance)) → Stays (and_then (and_then (found Cause.State o) (λ (i, x).
          ok_if (not x.freed) Cause.State (with_left (with_instance s i (record x {
            status = Status.Suspended u s.top.values;
            last_save = Some (record { depth = length s.below; save = k });
          })) true))) f)
      on None = tt
      on (Some p) = by p (not p.1.freed)

  suspend_longer : (s : State) (result : Option ℕ) (of_save : Operand) → IsLonger t (sizes_of s.world.memory)
      → Stays (suspend s result of_save)
  suspend_longer s result Operand.None h = save_longer s (point_of s) (point_of s) _ h (λ z k. k)
  suspend_longer s result _ h = h

  sleeper_longer : (s : State) (p : Value) (go : Sleeper → Result State Cause) → ((y : Sleeper) → Stays (go y))
      → Stays (and_then (sleeper_at s p) go)
  sleeper_longer s p go k = on (instance_at s.instances p)
    where
      by : (i : ℕ) (x : Instance) (st : Status) → Stays (and_then (sleeper_of i x st) go)
      by i x Status.Running = tt
      by i x (Status.Suspended at vs) = k (record { number = i; instance = x; suspend = at; values = vs })
      by i x Status.Finished = tt

      on : (o : Option (ℕ × Instance))
          → Stays (and_then (and_then (found Cause.Frame o) (λ (i, x). sleeper_of i x x.status)) go)
      on None = tt
      on (Some z) = by z.0 z.1 z.1.status

  leaves_longer : (s : State) (g : Given) (label : ℕ) (windows : List Window) → IsLonger t (sizes_of s.world.memory)
      → Stays (branch_leaving g s label windows)
  leaves_longer s g label [] h = h
  leaves_longer s g label (w ∷ windows) h =
      then_longer (found Cause.State (own_instance s)) _ (λ p. ok_longer _ Cause.State _ h)

  end_longer : (s : State) (result : Option ℕ) (close : State → State) → IsLonger t (sizes_of s.world.memory)
      → IsLonger t (sizes_of (close s).world.memory) → Stays (end_of s close result)
  end_longer s result close h k = on s.top.has_left
    where
      on : (b : Bool) → Stays (after_end (if b then s else close s) result s.top.mode)
      on true = after_longer s result s.top.mode h
      on false = after_longer (close s) result s.top.mode k

  freed_longer : (s : State) (v : Value) → IsLonger t (sizes_of s.world.memory)
      → Stays (and_then (deallocated (if_let_go s (instance_at s.instances v)).world.memory v) (λ memory.
      Ok (next (with_memory (if_let_go s (instance_at s.instances v)) memory))))
  freed_longer s v h = on (instance_at s.instances v)
    where
      by : (z : State) → IsLonger t (sizes_of z.world.memory)
          → Stays (and_then (deallocated z.world.memory v) (λ memory. Ok (next (with_memory z memory))))
      by z k = last (deallocated z.world.memory v) (deallocated_keeps z.world.memory v)
        where
          last : (r : Result (List MemoryBlock) Cause) → GivesSizes z.world.memory r
              → Stays (and_then r (λ memory. Ok (next (with_memory z memory))))
          last (Err cause) b = tt
          last (Ok memory) b = more_sizes t (sizes_of z.world.memory) (sizes_of memory) k b

      gone : (i : ℕ) (x : Instance) → IsLonger t (sizes_of (let_go s i x).world.memory)
      gone i x = more_sizes t (sizes_of s.world.memory)
          (sizes_of (disown (without_slots s.world.memory x.slots) x.block)) h
          (more_sizes (sizes_of s.world.memory) (sizes_of (without_slots s.world.memory x.slots))
          (sizes_of (disown (without_slots s.world.memory x.slots) x.block)) (without_keeps s.world.memory x.slots)
          (disown_keeps (without_slots s.world.memory x.slots) x.block))

      freed : (i : ℕ) (x : Instance) (b : Bool)
          → Stays (and_then (deallocated (if b then let_go s i x else s).world.memory v)
          (λ memory. Ok (next (with_memory (if b then let_go s i x else s) memory))))
      freed i x true = by (let_go s i x) (gone i x)
      freed i x false = by s h

      on : (o : Option (ℕ × Instance)) → Stays (and_then (deallocated (if_let_go s o).world.memory v)
          (λ memory. Ok (next (with_memory (if_let_go s o) memory))))
      on None = by s h
      on (Some p) = freed p.0 p.1 (may_be_freed p.1)

-- ---- a step keeps sizes

module _ (hooks : Hooks) (keeps : KeepsSizes hooks) (s : State) where
  abbrev T : List (ℕ × ℕ)
  T = sizes_of s.world.memory

  abbrev here : Fetched
  here = fetch (function_of hooks.given s) s.top.block s.top.at

  same : IsLonger T T
  same = same_sizes T

  coro_longer : (i : Intrinsic) (args : List Arg) (vs : List Value) (result : Option ℕ)
      → StaysLonger T (hooked_coro hooks s i args vs result)
  coro_longer Intrinsic.CoroId args vs result = same
  coro_longer Intrinsic.CoroSizeI32 args vs result = same
  coro_longer Intrinsic.CoroSizeI64 args vs result = same
  coro_longer Intrinsic.CoroAlignI32 args vs result = same
  coro_longer Intrinsic.CoroAlignI64 args vs result = same
  coro_longer Intrinsic.CoroAlloc args vs result = same
  coro_longer Intrinsic.CoroFrame args vs result = same
  coro_longer Intrinsic.LifetimeStart args vs result = same
  coro_longer Intrinsic.LifetimeEnd args vs result = same
  coro_longer Intrinsic.MemcpyI64 args vs result = same
  coro_longer Intrinsic.MemcpyI32 args vs result = same
  coro_longer Intrinsic.CoroBegin args vs result = keeps.start s result (nth vs 1)
  coro_longer Intrinsic.CoroFree args vs result = change_longer T s (λ x. record x { released = true })
      (own_instance s) same
  coro_longer Intrinsic.CoroSave args vs result =
      then_longer T (found Cause.State (suspend_of (function_of hooks.given s) (point_of s))) _
      (λ u. save_longer T s (point_of s) u _ same (λ z k. k))
  coro_longer Intrinsic.CoroSuspend args vs result = suspend_longer T s result (operand_at args 0) same
  coro_longer Intrinsic.CoroEnd args vs result = end_longer T s result hooks.close same (keeps.close s)
  coro_longer Intrinsic.CoroResume args vs result = sleeper_longer T s (nth vs 0) _
      (λ y. ok_longer T _ Cause.State _ (keeps.go_on s y.number y.instance y.suspend y.values _))
  coro_longer Intrinsic.CoroDestroy args vs result = sleeper_longer T s (nth vs 0) _
      (λ y. keeps.go_on s y.number y.instance y.suspend y.values _)
  coro_longer Intrinsic.CoroDone args vs result = sleeper_longer T s (nth vs 0) _
      (λ y. ok_longer T _ Cause.State _ same)
  coro_longer Intrinsic.CoroPromise args vs result =
      then_longer T (hooks.promised s (nth vs 0) (operand_at args 2)) _ (λ v. same)

  act_longer : (x : Fetched) (a : Action) → GivesSized hooks.given.code s.world.memory x a
      → StaysLonger T (hooked_act hooks s a)
  act_longer x (Stuck cause) k = tt
  act_longer x (Done w) k = k
  act_longer x (NewSlot w slot) k =
      more_sizes T (sizes_of w.world.memory) (sizes_of (hooks.place (settled s w) slot).world.memory) k.0
      (keeps.place (settled s w) slot)
  act_longer x (Enter func args result must_tail) k = same
  act_longer x (Coro i args result) k = coro_longer i args (arg_values hooks.given.code s.top.values args) result
  act_longer x (Deallocate p) k = freed_longer T s p same
  act_longer x (GoTo label) k = leaves_longer T s hooks.given label (left_windows hooks.given s label) same
  act_longer x (Return v) k = return_longer T s v same

  next_longer : (x : Fetched) → StaysLonger T (hooked_next hooks s x)
  next_longer x = on (hooks.is_idle s x) (hooks.given_call s x) refl
    where
      on : (b : Bool) (o : Option (Result State Cause)) → hooks.given_call s x ≡ o
          → StaysLonger T (if b then Ok (next s) else unwrap_or o
          (hooked_act hooks s (action_of (hooked_context hooks s) (work_of s) x)))
      on true o d = same
      on false None d = act_longer x (action_of (hooked_context hooks s) (work_of s) x)
          (step_sized (hooked_context hooks s) (work_of s) x)
      on false (Some r) d = keeps.call s x r d

  or_longer : (r : Result State Cause) → StaysLonger T r
      → IsLonger T (sizes_of (or_undefined hooks.given s r).world.memory)
  or_longer (Err cause) k = same
  or_longer (Ok z) k = k

  advance_longer : (o : Outcome) → IsLonger T (sizes_of (hooked_advance hooks s o).world.memory)
  advance_longer Outcome.Running = or_longer (hooked_next hooks s here) (next_longer here)
  advance_longer (Outcome.Returned v) = same
  advance_longer (Outcome.Undefined cause place) = same

  pub step_longer : IsLonger (sizes_of s.world.memory) (sizes_of (step_of hooks s).world.memory)
  step_longer = advance_longer s.outcome

-- ---- slots have their sizes in a longer row too

module _ (m : Module) (t u : List (ℕ × ℕ)) (h : IsLonger t u) where
  at_longer : (f : Function) (slot : Slot) → IsSizedAt m t f slot → IsSizedAt m u f slot
  at_longer f slot k = record {
    block = k.block;
    at = k.at;
    ty = k.ty;
    align = k.align;
    stands = k.stands;
    sized = h.each slot.block (size_of m k.ty, k.align) k.sized;
  }

  slots_longer : (f : Function) (ss : List Slot) → AreSlotwise (IsSizedAt m t) f ss → AreSlotwise (IsSizedAt m u) f ss
  slots_longer f [] k = tt
  slots_longer f (s ∷ ss) k = (at_longer f s k.0, slots_longer f ss k.1)

  stack_longer : (cs : List Activation) → AreSlotwiseOn (IsSizedAt m t) m cs → AreSlotwiseOn (IsSizedAt m u) m cs
  stack_longer [] k = tt
  stack_longer (a ∷ cs) k = (slots_longer (function_at m a.func) a.slots k.0, stack_longer cs k.1)

  instances_longer : (xs : List Instance) → AreSlotwiseIn (IsSizedAt m t) m xs → AreSlotwiseIn (IsSizedAt m u) m xs
  instances_longer [] k = tt
  instances_longer (x ∷ xs) k = (slots_longer (function_at m x.coroutine) x.slots k.0, instances_longer xs k.1)

  state_longer : (s : State) → IsSlotwise (IsSizedAt m t) m s → IsSlotwise (IsSizedAt m u) m s
  state_longer s k = record {
    stack = stack_longer (s.top ∷ s.below) k.stack;
    instances = instances_longer s.instances k.instances;
  }

-- ---- a step keeps slots with their sizes

abbrev StaysSized : Module → Result State Cause → Type 0
StaysSized m (Err cause) = Unit {0}
StaysSized m (Ok s) = IsSizedState m s

module _ (hooks : Hooks) (sizes : KeepsSizes hooks)
    (slots : (u : List (ℕ × ℕ)) → KeepsSlotwise (IsSizedAt hooks.given.code u) hooks) (s : State)
    (reached : IsReachedState hooks.given s) (k : IsSizedState hooks.given.code s) where
  abbrev m : Module
  m = hooks.given.code

  abbrev at : Fetched
  at = fetch (function_of hooks.given s) s.top.block s.top.at

  by_parts : (r : Result State Cause) → StaysLonger (sizes_of s.world.memory) r
      → ((u : List (ℕ × ℕ)) → IsSlotwise (IsSizedAt hooks.given.code u) hooks.given.code s
      → StaysSlotwise (IsSizedAt hooks.given.code u) hooks.given.code r) → StaysSized hooks.given.code r
  by_parts (Err cause) l h = tt
  by_parts (Ok t) l h = h (sizes_of t.world.memory)
      (state_longer hooks.given.code (sizes_of s.world.memory) (sizes_of t.world.memory) l s k)

  act_sized : (a : Action) → GivesSized hooks.given.code s.world.memory at a
      → StaysSized hooks.given.code (hooked_act hooks s a)
  act_sized (Stuck cause) g = tt
  act_sized (NewSlot w slot) g =
      let t : State = hooks.place (settled s w) slot in
      let u : List (ℕ × ℕ) = sizes_of t.world.memory in
      let l : IsLonger (sizes_of w.world.memory) u = sizes.place (settled s w) slot in
      let old = state_longer m (sizes_of s.world.memory) u
      (more_sizes (sizes_of s.world.memory) (sizes_of w.world.memory) u g.0 l) s k in
      (slots u).place (settled s w) slot
      (record {
        top = record {
          own = reached.top.own;
          reached = after (Instr.Alloca slot.alloca g.1 g.2) g.3 reached.top.reached;
          entered = reached.top.entered;
        };
        below = reached.below;
        instances = reached.instances;
      })
      (at_longer m (sizes_of w.world.memory) u l (function_of hooks.given s) slot (record {
        block = s.top.block;
        at = s.top.at;
        ty = g.1;
        align = g.2;
        stands = g.3;
        sized = g.4;
      }))
      (record { stack = old.stack; instances = old.instances })
  act_sized (Done w) g = by_parts (hooked_act hooks s (Done w)) g
      (λ u h. act_slotwise (IsSizedAt m u) hooks (slots u) s reached h at refl (Done w) tt tt)
  act_sized (Enter func args result must_tail) g =
      by_parts (hooked_act hooks s (Enter func args result must_tail))
      (act_longer hooks sizes s at (Enter func args result must_tail) g)
      (λ u h. act_slotwise (IsSizedAt m u) hooks (slots u) s reached h at refl (Enter func args result must_tail) tt tt)
  act_sized (Coro i args result) g = by_parts (hooked_act hooks s (Coro i args result))
      (act_longer hooks sizes s at (Coro i args result) g)
      (λ u h. act_slotwise (IsSizedAt m u) hooks (slots u) s reached h at refl (Coro i args result) tt tt)
  act_sized (Deallocate p) g = by_parts (hooked_act hooks s (Deallocate p))
      (act_longer hooks sizes s at (Deallocate p) g)
      (λ u h. act_slotwise (IsSizedAt m u) hooks (slots u) s reached h at refl (Deallocate p) tt tt)
  act_sized (GoTo label) g = by_parts (hooked_act hooks s (GoTo label)) (act_longer hooks sizes s at (GoTo label) g)
      (λ u h. act_slotwise (IsSizedAt m u) hooks (slots u) s reached h at refl (GoTo label) tt tt)
  act_sized (Return v) g = by_parts (hooked_act hooks s (Return v)) (act_longer hooks sizes s at (Return v) g)
      (λ u h. act_slotwise (IsSizedAt m u) hooks (slots u) s reached h at refl (Return v) tt tt)

  next_sized : StaysSized hooks.given.code (hooked_next hooks s at)
  next_sized = on (hooks.is_idle s at) (hooks.given_call s at) refl
    where
      on : (b : Bool) (o : Option (Result State Cause)) → hooks.given_call s at ≡ o
          → StaysSized hooks.given.code (if b then Ok (next s) else unwrap_or o
          (hooked_act hooks s (action_of (hooked_context hooks s) (work_of s) at)))
      on true o d = record { stack = k.stack; instances = k.instances }
      on false None d = act_sized (action_of (hooked_context hooks s) (work_of s) at)
          (step_sized (hooked_context hooks s) (work_of s) at)
      on false (Some r) d = by_parts r (sizes.call s at r d) (λ u h. (slots u).call s at r d h)

  or_sized : (r : Result State Cause) → StaysSized hooks.given.code r
      → IsSizedState hooks.given.code (or_undefined hooks.given s r)
  or_sized (Err cause) h = record { stack = k.stack; instances = k.instances }
  or_sized (Ok t) h = h

  advance_sized : (o : Outcome) → IsSizedState hooks.given.code (hooked_advance hooks s o)
  advance_sized Outcome.Running = or_sized (hooked_next hooks s at) next_sized
  advance_sized (Outcome.Returned v) = k
  advance_sized (Outcome.Undefined cause place) = k

  pub state_sized : IsSizedState hooks.given.code (step_of hooks s)
  state_sized = advance_sized s.outcome

-- ---- runs

steps_sized : (hooks : Hooks) → KeepsSizes hooks
    → ((u : List (ℕ × ℕ)) → KeepsSlotwise (IsSizedAt hooks.given.code u) hooks) → (n : ℕ) (s : State)
    → ((k : ℕ) → IsReachedState hooks.given (iterate (step_of hooks) k s)) → IsSizedState hooks.given.code s
    → IsSizedState hooks.given.code (iterate (step_of hooks) n s)
steps_sized hooks sizes slots zero s reached h = h
steps_sized hooks sizes slots (suc n) s reached h =
    steps_sized hooks sizes slots n (step_of hooks s) (λ k. reached (suc k))
    (state_sized hooks sizes slots s (reached 0) h)

pub states_sized : (hooks : Hooks) → KeepsSizes hooks
    → ((u : List (ℕ × ℕ)) → KeepsSlotwise (IsSizedAt hooks.given.code u) hooks) → (entry : ℕ) (args : List Word)
    → ((k : ℕ) → IsReachedState hooks.given (hooked_state_at hooks entry args k)) → (n : ℕ)
    → IsSizedState hooks.given.code (hooked_state_at hooks entry args n)
states_sized hooks sizes slots entry args reached n =
    steps_sized hooks sizes slots n (first_state hooks.given.code entry args) reached
    (record { stack = (tt, tt); instances = tt })
