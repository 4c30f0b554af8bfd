-- A step by hooks leaves blocks of slots what they are, where no end at the place leads there.
use Rattle.std.proofs.Common.{◌≡◌, ℕ, Bool, true, false, List, [], ◌∷◌, length, Option, Some, None, Result, Ok, Err}
use Rattle.std.proofs.Common.{refl, subst}
use Rattle.std.specs.Prelude.{if◌then◌else◌, not, unwrap_or}
use Rattle.compiler.specs.ir_base.declared.cause.Cause.{Cause}
use Rattle.compiler.specs.ir_base.declared.outcome.Outcome.{Outcome}
use Rattle.compiler.specs.ir_model.declared.operand.Arg.{Arg}
use Rattle.compiler.specs.ir_model.declared.operand.Intrinsic.{Intrinsic}
use Rattle.compiler.specs.ir_model.declared.operand.Operand.{Operand}
use Rattle.compiler.specs.ir_paths.Windows.{operand_at, suspend_of}
use Rattle.compiler.specs.ir_paths.declared.point.Point.{Point}
use Rattle.compiler.specs.ir_paths.declared.point.Window.{Window}
use Rattle.compiler_theorem.proofs.temporaries.Memory.{GivesUse, GivesUses, deallocated_used, disown_used, step_used}
use Rattle.compiler_theorem.proofs.temporaries.Memory.{without_used}
use Rattle.compiler_theorem.specs.temporaries.Uses.{IsSparedBy, IsUsedAt, KeepsUses, StaysUsed, Use}
use Rattle.compiler.specs.run_laws.access.Changed.{IsFull}
use Rattle.pass_frames_meaning.specs.run_hooks.Hooks.{Hooks, hooked_act, hooked_advance, hooked_context, hooked_coro}
use Rattle.pass_frames_meaning.specs.run_hooks.Hooks.{hooked_next}
use Rattle.pass_frames_meaning.specs.run_hooks.Hooks.{step_of}
use Rattle.compiler.specs.run_memory.declared.block.MemoryBlock.{MemoryBlock}
use Rattle.compiler.specs.run_memory.declared.pointer.Value.{Value}
use Rattle.compiler.specs.run_source.Source.{Sleeper, after_end, branch_leaving, change_own, end_of, if_let_go}
use Rattle.compiler.specs.run_source.Source.{left_windows, let_go, may_be_freed, pop, return, returned}
use Rattle.compiler.specs.run_source.Source.{save_for, sleeper_at, sleeper_of, suspend}
use Rattle.compiler.specs.run_source.State.{function_of, instance_at, next, or_undefined, own_instance}
use Rattle.compiler.specs.run_source.State.{point_of}
use Rattle.compiler.specs.run_source.State.{settled, with_instance, with_left, with_memory, work_of}
use Rattle.compiler.specs.run_source.declared.state.Activation.{Activation}
use Rattle.compiler.specs.run_source.declared.state.Instance.{Instance}
use Rattle.compiler.specs.run_source.declared.state.Mode.{Mode}
use Rattle.compiler.specs.run_source.declared.state.State.{State}
use Rattle.compiler.specs.run_source.declared.state.Status.{Status}
use Rattle.compiler.specs.run_source_tables.Given.{Given}
use Rattle.compiler.specs.run_step.Results.{and_then, found, ok_if}
use Rattle.compiler.specs.run_step.Step.{Action, Coro, Deallocate, Done, Enter, Fetched, GoTo, NewSlot}
use Rattle.compiler.specs.run_step.Step.{Return, Stuck}
use Rattle.compiler.specs.run_step.Step.{action_of, deallocated, fetch, outcome_of, without_slots}
use Rattle.compiler.specs.run_step.Values.{arg_values, nth}

-- ---- parts of a step that leave memory

module _ (u : Use) (n : ℕ) where
  abbrev Stays : Result State Cause → Type 0
  Stays r = StaysUsed u n r

  then_stays : {A : Type 0} (r : Result A Cause) (f : A → Result State Cause) → ((a : A) → Stays (f a))
      → Stays (and_then r f)
  then_stays (Err cause) f h = tt
  then_stays (Ok a) f h = h a

  ok_stays : (b : Bool) (cause : Cause) (s : State) → IsUsedAt u s.world.memory n → Stays (ok_if b cause s)
  ok_stays true cause s h = h
  ok_stays false cause s h = tt

  change_stays : (s : State) (f : Instance → Instance) (o : Option (ℕ × Instance))
      → IsUsedAt u s.world.memory n
      → IsUsedAt u (change_own s f o).world.memory n
  change_stays s f None h = h
  change_stays s f (Some (i, x)) h = h

  return_stays : (s : State) (v : Option Value) → IsUsedAt u s.world.memory n → Stays (return s v)
  return_stays s v h = on s.below
    where
      k : IsUsedAt u (without_slots s.world.memory s.top.slots) n
      k = without_used u s.world.memory s.top.slots n h

      on : (below : List Activation) → Stays (pop (returned s) v below)
      on [] = then_stays (outcome_of v) _ (λ outcome. k)
      on (a ∷ below) = k

  after_stays : (s : State) (result : Option ℕ) (mode : Mode) → IsUsedAt u s.world.memory n
      → Stays (after_end s result mode)
  after_stays s result Mode.Resumed h = return_stays s None h
  after_stays s result _ h = h

  save_stays : (s : State) (k at : Point) (f : State → Result State Cause) → IsUsedAt u s.world.memory n
      → ((z : State) → IsUsedAt u z.world.memory n → Stays (f z)) → Stays (and_then (save_for s k at) f)
  save_stays s k at f h next = on (own_instance s)
    where
      by : (p : ℕ × Instance) (b : Bool)
          → Stays (and_then (ok_if b Cause.State (with_left (with_instance s p.0 (record p.1 {
            status = Status.Suspended at s.top.values;
            last_save = Some (record { depth = length s.below; save = k });
          })) true)) f)
      by p true = next _ h
      by p false = tt

      on : (o : Option (ℕ × Instance)) → Stays (and_then (and_then (found Cause.State o) (λ (i, x).
          ok_if (not x.freed) Cause.State (with_left (with_instance s i (record x {
            status = Status.Suspended at s.top.values;
            last_save = Some (record { depth = length s.below; save = k });
          })) true))) f)
      on None = tt
      on (Some p) = by p (not p.1.freed)

  suspend_stays : (s : State) (result : Option ℕ) (of_save : Operand) → IsUsedAt u s.world.memory n
      → Stays (suspend s result of_save)
  suspend_stays s result Operand.None h = save_stays s (point_of s) (point_of s) _ h (λ z k. k)
  suspend_stays s result _ h = h

  sleeper_stays : (s : State) (p : Value) (go : Sleeper → Result State Cause) → ((y : Sleeper) → Stays (go y))
      → Stays (and_then (sleeper_at s p) go)
  sleeper_stays s p go k = on (instance_at s.instances p)
    where
      by : (i : ℕ) (x : Instance) (st : Status) → Stays (and_then (sleeper_of i x st) go)
      by i x Status.Running = tt
      by i x (Status.Suspended at vs) = k (record { number = i; instance = x; suspend = at; values = vs })
      by i x Status.Finished = tt

      on : (o : Option (ℕ × Instance))
          → Stays (and_then (and_then (found Cause.Frame o) (λ (i, x). sleeper_of i x x.status)) go)
      on None = tt
      on (Some z) = by z.0 z.1 z.1.status

  leaves_stays : (s : State) (g : Given) (label : ℕ) (windows : List Window) → IsUsedAt u s.world.memory n
      → Stays (branch_leaving g s label windows)
  leaves_stays s g label [] h = h
  leaves_stays s g label (w ∷ windows) h =
      then_stays (found Cause.State (own_instance s)) _ (λ p. ok_stays _ Cause.State _ h)

  end_stays : (s : State) (result : Option ℕ) (close : State → State) → IsUsedAt u s.world.memory n
      → IsUsedAt u (close s).world.memory n → Stays (end_of s close result)
  end_stays s result close h k = on s.top.has_left
    where
      on : (b : Bool) → Stays (after_end (if b then s else close s) result s.top.mode)
      on true = after_stays s result s.top.mode h
      on false = after_stays (close s) result s.top.mode k

  freed_stays : (s : State) (v : Value) → IsUsedAt u s.world.memory n
      → Stays (and_then (deallocated (if_let_go s (instance_at s.instances v)).world.memory v) (λ memory.
      Ok (next (with_memory (if_let_go s (instance_at s.instances v)) memory))))
  freed_stays s v h = on (instance_at s.instances v)
    where
      by : (z : State) → IsUsedAt u z.world.memory n
          → Stays (and_then (deallocated z.world.memory v) (λ memory. Ok (next (with_memory z memory))))
      by z k = last (deallocated z.world.memory v) (deallocated_used u z.world.memory v n k)
        where
          last : (r : Result (List MemoryBlock) Cause) → GivesUses u n r
              → Stays (and_then r (λ memory. Ok (next (with_memory z memory))))
          last (Err cause) b = tt
          last (Ok memory) b = b

      gone : (i : ℕ) (x : Instance) → IsUsedAt u (let_go s i x).world.memory n
      gone i x = disown_used u (without_slots s.world.memory x.slots) x.block n
          (without_used u s.world.memory x.slots n h)

      freed : (i : ℕ) (x : Instance) (b : Bool)
          → Stays (and_then (deallocated (if b then let_go s i x else s).world.memory v)
          (λ memory. Ok (next (with_memory (if b then let_go s i x else s) memory))))
      freed i x true = by (let_go s i x) (gone i x)
      freed i x false = by s h

      on : (o : Option (ℕ × Instance)) → Stays (and_then (deallocated (if_let_go s o).world.memory v)
          (λ memory. Ok (next (with_memory (if_let_go s o) memory))))
      on None = by s h
      on (Some p) = freed p.0 p.1 (may_be_freed p.1)

-- ---- a step keeps what blocks are

module _ (hooks : Hooks) (keeps : KeepsUses hooks) (u : Use) (n : ℕ) (s : State)
    (full : (b : ℕ) → IsFull s.world.memory b) (same : IsUsedAt u s.world.memory n)
    (away : IsSparedBy u n (hooked_context hooks s) (work_of s)
    (fetch (function_of hooks.given s) s.top.block s.top.at)) where
  abbrev here : Fetched
  here = fetch (function_of hooks.given s) s.top.block s.top.at

  coro_stays : (i : Intrinsic) (args : List Arg) (vs : List Value) (result : Option ℕ)
      → StaysUsed u n (hooked_coro hooks s i args vs result)
  coro_stays Intrinsic.CoroId args vs result = same
  coro_stays Intrinsic.CoroSizeI32 args vs result = same
  coro_stays Intrinsic.CoroSizeI64 args vs result = same
  coro_stays Intrinsic.CoroAlignI32 args vs result = same
  coro_stays Intrinsic.CoroAlignI64 args vs result = same
  coro_stays Intrinsic.CoroAlloc args vs result = same
  coro_stays Intrinsic.CoroFrame args vs result = same
  coro_stays Intrinsic.LifetimeStart args vs result = same
  coro_stays Intrinsic.LifetimeEnd args vs result = same
  coro_stays Intrinsic.MemcpyI64 args vs result = same
  coro_stays Intrinsic.MemcpyI32 args vs result = same
  coro_stays Intrinsic.CoroBegin args vs result = keeps.start u n s result (nth vs 1) same
  coro_stays Intrinsic.CoroFree args vs result = change_stays u n s (λ x. record x { released = true })
      (own_instance s) same
  coro_stays Intrinsic.CoroSave args vs result =
      then_stays u n (found Cause.State (suspend_of (function_of hooks.given s) (point_of s))) _
      (λ at. save_stays u n s (point_of s) at _ same (λ z k. k))
  coro_stays Intrinsic.CoroSuspend args vs result = suspend_stays u n s result (operand_at args 0) same
  coro_stays Intrinsic.CoroEnd args vs result = end_stays u n s result hooks.close same (keeps.close u n s same)
  coro_stays Intrinsic.CoroResume args vs result = sleeper_stays u n s (nth vs 0) _
      (λ y. ok_stays u n _ Cause.State _ (keeps.go_on u n s y.number y.instance y.suspend y.values _ same))
  coro_stays Intrinsic.CoroDestroy args vs result = sleeper_stays u n s (nth vs 0) _
      (λ y. keeps.go_on u n s y.number y.instance y.suspend y.values _ same)
  coro_stays Intrinsic.CoroDone args vs result = sleeper_stays u n s (nth vs 0) _
      (λ y. ok_stays u n _ Cause.State _ same)
  coro_stays Intrinsic.CoroPromise args vs result =
      then_stays u n (hooks.promised s (nth vs 0) (operand_at args 2)) _ (λ v. same)

  pub act_stays : (x : Fetched) (a : Action) → GivesUse u n (hooked_context hooks s) s.world.memory x a
      → StaysUsed u n (hooked_act hooks s a)
  act_stays x (Stuck cause) k = tt
  act_stays x (Done w) k = k
  act_stays x (NewSlot w slot) k = keeps.place u n (settled s w) slot k.0
  act_stays x (Enter func args result must_tail) k = same
  act_stays x (Coro i args result) k = coro_stays i args (arg_values hooks.given.code s.top.values args) result
  act_stays x (Deallocate p) k = freed_stays u n s p same
  act_stays x (GoTo label) k = leaves_stays u n s hooks.given label (left_windows hooks.given s label) same
  act_stays x (Return v) k = return_stays u n s v same

  next_stays : (x : Fetched) → here ≡ x → hooks.given_call s x ≡ None → StaysUsed u n (hooked_next hooks s x)
  next_stays x e none = on (hooks.is_idle s x) (hooks.given_call s x) none
    where
      on : (b : Bool) (o : Option (Result State Cause)) → o ≡ None → StaysUsed u n (if b then Ok (next s) else
          unwrap_or o
          (hooked_act hooks s (action_of (hooked_context hooks s) (work_of s) x)))
      on true o d = same
      on false None d = act_stays x (action_of (hooked_context hooks s) (work_of s) x)
          (step_used u n (hooked_context hooks s) (work_of s) full same x
          (subst (IsSparedBy u n (hooked_context hooks s) (work_of s)) e away))
      on false (Some r) d = absurd (cc)

  or_stays : (r : Result State Cause) → StaysUsed u n r → IsUsedAt u (or_undefined hooks.given s r).world.memory n
  or_stays (Err cause) k = same
  or_stays (Ok z) k = k

  advance_stays : (o : Outcome) → IsUsedAt u (hooked_advance hooks s o).world.memory n
  advance_stays Outcome.Running =
      or_stays (hooked_next hooks s here) (next_stays here refl (keeps.ungiven s s.top.block s.top.at))
  advance_stays (Outcome.Returned v) = same
  advance_stays (Outcome.Undefined cause place) = same

  pub step_stays : IsUsedAt u (step_of hooks s).world.memory n
  step_stays = advance_stays s.outcome
