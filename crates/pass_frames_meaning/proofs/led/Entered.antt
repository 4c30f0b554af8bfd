-- What makes slots anew returns to no name.
use Rattle.std.proofs.Common.{◌≡◌, ℕ, Bool, true, false, List, [], ◌∷◌, Option, Some, None, Result, Ok, Err}
use Rattle.std.proofs.Common.{if◌then◌else◌, length}
use Rattle.std.specs.Prelude.{is_none, not}
use Rattle.pass_frames_proof.specs.ir_base.declared.cause.Cause.{Cause}
use Rattle.pass_frames_proof.specs.ir_model.Names.{function_at}
use Rattle.pass_frames_proof.specs.ir_model.declared.operand.Arg.{Arg}
use Rattle.pass_frames_proof.specs.ir_model.declared.operand.Intrinsic.{Intrinsic}
use Rattle.pass_frames_proof.specs.ir_model.declared.operand.Operand.{Operand}
use Rattle.pass_frames_proof.specs.ir_paths.Windows.{operand_at, suspend_of}
use Rattle.pass_frames_proof.specs.ir_paths.declared.point.Point.{Point}
use Rattle.pass_frames_proof.specs.ir_paths.declared.point.Window.{Window}
use Rattle.pass_frames_meaning.proofs.led.Names.{calm_still}
use Rattle.pass_frames_meaning.specs.Called.{AreBehindCalls}
use Rattle.pass_frames_proof.specs.Stepping.{IsNotEntering}
use Rattle.pass_frames_proof.specs.run_memory.Memory.{own}
use Rattle.pass_frames_proof.specs.run_memory.declared.block.Kind.{Kind}
use Rattle.pass_frames_proof.specs.run_memory.declared.block.MemoryBlock.{MemoryBlock}
use Rattle.pass_frames_proof.specs.run_memory.declared.pointer.Value.{Value}
use Rattle.pass_frames_proof.specs.run_source.Source.{Continues, Sleeper, act, after_end, begin, begin_at, begun, branch_leaving}
use Rattle.pass_frames_proof.specs.run_source.Source.{change_own, coro, deallocate, end_of, finish, if_let_go, left_windows, let_go}
use Rattle.pass_frames_proof.specs.run_source.Source.{may_be_freed, pop, promise, return, returned, save_for, sleeper_at}
use Rattle.pass_frames_proof.specs.run_source.Source.{sleeper_of, suspend}
use Rattle.pass_frames_proof.specs.run_source.State.{function_of, gives, instance_at, own_frame, own_instance, point_of}
use Rattle.pass_frames_proof.specs.run_source.State.{with_instance, with_left, with_memory}
use Rattle.pass_frames_proof.specs.run_source.declared.state.Activation.{Activation}
use Rattle.pass_frames_proof.specs.run_source.declared.state.Instance.{Instance}
use Rattle.pass_frames_proof.specs.run_source.declared.state.Mode.{Mode}
use Rattle.pass_frames_proof.specs.run_source.declared.state.State.{State}
use Rattle.pass_frames_proof.specs.run_source.declared.state.Status.{Status}
use Rattle.pass_frames_proof.specs.run_source_tables.Given.{Given}
use Rattle.pass_frames_proof.specs.run_step.Results.{and_then, found, ok_if}
use Rattle.pass_frames_proof.specs.run_step.Step.{Action, Coro, Deallocate, Done, Enter, GoTo, NewSlot, Return, Stuck, block_of}
use Rattle.pass_frames_proof.specs.run_step.Step.{deallocated, outcome_of}
use Rattle.pass_frames_proof.specs.run_step.Values.{Env, arg_values, nth}

abbrev pub ReturnsNowhere : Mode → Option ℕ → Type 0
ReturnsNowhere (Mode.Entering from label) result = result ≡ None
ReturnsNowhere _ result = Unit {0}

abbrev pub IsEnterer : State → Type 0
IsEnterer s = ReturnsNowhere s.top.mode s.top.result

abbrev pub StaysEnterer : Result State Cause → Type 0
StaysEnterer (Err cause) = Unit {0}
StaysEnterer (Ok s) = IsEnterer s

pub still_enterer : (mode : Mode) (result : Option ℕ) → IsNotEntering mode → ReturnsNowhere mode result
still_enterer Mode.Plain result h = tt
still_enterer Mode.Ramp result h = tt
still_enterer Mode.Resumed result h = tt
still_enterer (Mode.GivenRamp frame) result h = tt
still_enterer (Mode.Entering from label) result h = absurd h

then_enterer : {A : Type 0} (r : Result A Cause) (f : A → Result State Cause) → ((a : A) → StaysEnterer (f a))
    → StaysEnterer (and_then r f)
then_enterer (Err cause) f k = tt
then_enterer (Ok a) f k = k a

ok_enterer : (b : Bool) (cause : Cause) (s : State) → IsEnterer s → StaysEnterer (ok_if b cause s)
ok_enterer true cause s k = k
ok_enterer false cause s k = tt

module _ (g : Given) (go : Continues)
    (goes : (s : State) (i : ℕ) (x : Instance) (at : Point) (values : Env) (label : ℕ)
    → IsEnterer (go s i x at values label)) where
  return_enterer : (s : State) (v : Option Value) → IsEnterer s → AreBehindCalls g.code s.top.result s.below
      → StaysEnterer (return s v)
  return_enterer s v k c = by s.below c
    where
      by : (below : List Activation) → AreBehindCalls g.code s.top.result below
          → StaysEnterer (pop (returned s) v below)
      by [] c = then_enterer (outcome_of v) (λ outcome. Ok (record (returned s) { outcome = outcome })) (λ outcome. k)
      by (a ∷ below) c = still_enterer a.mode a.result (calm_still a.mode c.0.calm)

  after_enterer : (s : State) (result : Option ℕ) (mode : Mode) → IsEnterer s
      → AreBehindCalls g.code s.top.result s.below → StaysEnterer (after_end s result mode)
  after_enterer s result Mode.Resumed k c = return_enterer s None k c
  after_enterer s result _ k c = k

  sleeper_enterer : (s : State) (p : Value) (f : Sleeper → Result State Cause) → ((y : Sleeper) → StaysEnterer (f y))
      → StaysEnterer (and_then (sleeper_at s p) f)
  sleeper_enterer s p f k = on (instance_at s.instances p)
    where
      by : (i : ℕ) (x : Instance) (st : Status) → StaysEnterer (and_then (sleeper_of i x st) f)
      by i x Status.Running = tt
      by i x (Status.Suspended at vs) = k (record { number = i; instance = x; suspend = at; values = vs })
      by i x Status.Finished = tt

      on : (o : Option (ℕ × Instance))
          → StaysEnterer (and_then (and_then (found Cause.Frame o) (λ (i, x). sleeper_of i x x.status)) f)
      on None = tt
      on (Some z) = by z.0 z.1 z.1.status

  module _ (s : State) (still : IsNotEntering s.top.mode) (c : AreBehindCalls g.code s.top.result s.below) where
    same : IsEnterer s
    same = still_enterer s.top.mode s.top.result still

    leaves_enterer : (label : ℕ) (windows : List Window) → StaysEnterer (branch_leaving g s label windows)
    leaves_enterer label [] = same
    leaves_enterer label (w ∷ windows) = then_enterer (found Cause.State (own_instance s)) _ (λ p.
        ok_enterer _ Cause.State _ same)

    save_enterer : (p u : Point) (f : State → Result State Cause) → ((t : State) → IsEnterer t → StaysEnterer (f t))
        → StaysEnterer (and_then (save_for s p u) f)
    save_enterer p u f then' = on (own_instance s)
      where
        by : (q : ℕ × Instance) (b : Bool) → StaysEnterer (and_then (ok_if b Cause.State
            (with_left (with_instance s q.0 (record q.1 {
              status = Status.Suspended u s.top.values;
              last_save = Some (record { depth = length s.below; save = p });
            })) true)) f)
        by q false = tt
        by q true = then' _ same

        on : (o : Option (ℕ × Instance)) → StaysEnterer (and_then (and_then (found Cause.State o) (λ (i, x).
            ok_if (not x.freed) Cause.State
            (with_left (with_instance s i (record x {
              status = Status.Suspended u s.top.values;
              last_save = Some (record { depth = length s.below; save = p });
            })) true))) f)
        on None = tt
        on (Some q) = by q (not q.1.freed)

    suspend_enterer : (result : Option ℕ) (of_save : Operand) → StaysEnterer (suspend s result of_save)
    suspend_enterer result Operand.None = save_enterer (point_of s) (point_of s) _ (λ t k. k)
    suspend_enterer result _ = same

    finished : (o : Option (ℕ × Instance))
        → ReturnsNowhere (change_own s (λ x. record x { status = Status.Finished }) o).top.mode
        (change_own s (λ x. record x { status = Status.Finished }) o).top.result
        × AreBehindCalls g.code (change_own s (λ x. record x { status = Status.Finished }) o).top.result
        (change_own s (λ x. record x { status = Status.Finished }) o).below
    finished None = (same, c)
    finished (Some p) = (same, c)

    end_enterer : (result : Option ℕ) → StaysEnterer (end_of s finish result)
    end_enterer result = on s.top.has_left
      where
        on : (b : Bool) → StaysEnterer (after_end (if b then s else finish s) result s.top.mode)
        on true = after_enterer s result s.top.mode same c
        on false = after_enterer (finish s) result s.top.mode (finished (own_instance s)).0
            (finished (own_instance s)).1

    begin_enterer : (result : Option ℕ) (p : Value) → StaysEnterer (begin g s result p)
    begin_enterer result p = on (is_none s.top.instance)
      where
        last : (memory : List MemoryBlock) (o : Option ℕ)
            → StaysEnterer (and_then (and_then (found Cause.Begin o) (λ b. Ok (begun g (with_memory s memory) b 0)))
            (λ t. Ok (gives t result p)))
        last memory None = tt
        last memory (Some b) = same

        by : (r : Result (List MemoryBlock) Cause)
            → StaysEnterer (and_then (and_then r (λ memory. and_then (found Cause.Begin (block_of p)) (λ b.
            Ok (begun g (with_memory s memory) b 0)))) (λ t. Ok (gives t result p)))
        by (Err cause) = tt
        by (Ok memory) = last memory (block_of p)

        on : (b : Bool) → StaysEnterer (and_then (ok_if b Cause.Begin s)
            (λ u. and_then (begin_at g u p Kind.Allocator) (λ t. Ok (gives t result p))))
        on true = by (own s.world.memory p (own_frame g s).size Kind.Allocator)
        on false = tt

    freed_enterer : (p : Value) → StaysEnterer (deallocate s p)
    freed_enterer p = then_enterer (deallocated (if_let_go s (instance_at s.instances p)).world.memory p) _ (λ memory.
        goes_on (instance_at s.instances p))
      where
        goes_on : (o : Option (ℕ × Instance))
            → ReturnsNowhere (if_let_go s o).top.mode (if_let_go s o).top.result
        goes_on None = same
        goes_on (Some q) = by (may_be_freed q.1)
          where
            by : (b : Bool) → ReturnsNowhere (if b then let_go s q.0 q.1 else s).top.mode
                (if b then let_go s q.0 q.1 else s).top.result
            by true = same
            by false = same

    released : (o : Option (ℕ × Instance))
        → ReturnsNowhere (change_own s (λ x. record x { released = true }) o).top.mode
        (change_own s (λ x. record x { released = true }) o).top.result
    released None = same
    released (Some p) = same

    coro_enterer : (i : Intrinsic) (args : List Arg) (vs : List Value) (result : Option ℕ)
        → StaysEnterer (coro g go s i args vs result)
    coro_enterer Intrinsic.CoroId args vs result = same
    coro_enterer Intrinsic.CoroSizeI32 args vs result = same
    coro_enterer Intrinsic.CoroSizeI64 args vs result = same
    coro_enterer Intrinsic.CoroAlignI32 args vs result = same
    coro_enterer Intrinsic.CoroAlignI64 args vs result = same
    coro_enterer Intrinsic.CoroAlloc args vs result = same
    coro_enterer Intrinsic.CoroBegin args vs result = begin_enterer result (nth vs 1)
    coro_enterer Intrinsic.CoroFree args vs result = released (own_instance s)
    coro_enterer Intrinsic.CoroFrame args vs result = same
    coro_enterer Intrinsic.CoroSave args vs result =
        then_enterer (found Cause.State (suspend_of (function_of g s) (point_of s))) _ (λ u.
        save_enterer (point_of s) u _ (λ t k. k))
    coro_enterer Intrinsic.CoroSuspend args vs result = suspend_enterer result (operand_at args 0)
    coro_enterer Intrinsic.CoroEnd args vs result = end_enterer result
    coro_enterer Intrinsic.CoroResume args vs result = sleeper_enterer s (nth vs 0) _ (λ y.
        ok_enterer _ Cause.State _ (goes s y.number y.instance y.suspend y.values _))
    coro_enterer Intrinsic.CoroDestroy args vs result = sleeper_enterer s (nth vs 0) _ (λ y.
        goes s y.number y.instance y.suspend y.values _)
    coro_enterer Intrinsic.CoroDone args vs result = sleeper_enterer s (nth vs 0) _ (λ y.
        ok_enterer _ Cause.State _ same)
    coro_enterer Intrinsic.CoroPromise args vs result =
        then_enterer (promise g s (nth vs 0) (operand_at args 2)) _ (λ v. same)
    coro_enterer Intrinsic.LifetimeStart args vs result = same
    coro_enterer Intrinsic.LifetimeEnd args vs result = same
    coro_enterer Intrinsic.MemcpyI64 args vs result = same
    coro_enterer Intrinsic.MemcpyI32 args vs result = same

    abbrev NoSlot : Action → Type 0
    NoSlot (NewSlot w slot) = ⊥
    NoSlot _ = Unit {0}

    called_enterer : (b : Bool) (result : Option ℕ) → ReturnsNowhere (if b then Mode.Ramp else Mode.Plain) result
    called_enterer true result = tt
    called_enterer false result = tt

    pub act_enterer : (a : Action) → NoSlot a → StaysEnterer (act g go s a)
    act_enterer (Done w) q = same
    act_enterer (NewSlot w slot) q = absurd q
    act_enterer (Enter func args result must_tail) q = called_enterer (function_at g.code func).coroutine result
    act_enterer (Coro i args result) q = coro_enterer i args (arg_values g.code s.top.values args) result
    act_enterer (Deallocate p) q = freed_enterer p
    act_enterer (GoTo label) q = leaves_enterer label (left_windows g s label)
    act_enterer (Return v) q = return_enterer s v same c
    act_enterer (Stuck cause) q = tt
