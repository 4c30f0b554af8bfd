-- A framed step doesn't look at the count of allocator calls.
use Rattle.std.proofs.Common.{◌≡◌, ℕ, Bool, true, false, not, List, [], ◌∷◌, length, Option, Result, Ok, Err, refl, ap, sym, ◌∙◌, if◌then◌else◌, ◌&&◌, ◌==◌}
use Rattle.std.specs.List.{list_all}
use Rattle.std.specs.Prelude.{None, Some, is_none, negsuc, unwrap_or}
use Rattle.pass_elide_proof.proofs.Counted.{step_same}
use Rattle.pass_elide_proof.specs.Counts.{counted_action, counted_result, counted_state}
use Rattle.pass_proofs.specs.ir_base.declared.cause.Cause.{Cause}
use Rattle.pass_proofs.specs.ir_base.declared.outcome.Outcome.{Outcome}
use Rattle.pass_proofs.specs.ir_model.Names.{function_at}
use Rattle.pass_proofs.specs.ir_model.declared.instr.Instr.{Instr}
use Rattle.pass_proofs.specs.ir_model.declared.operand.Arg.{Arg}
use Rattle.pass_proofs.specs.ir_model.declared.operand.Callee.{Callee}
use Rattle.pass_proofs.specs.ir_model.declared.operand.Intrinsic.{Intrinsic}
use Rattle.pass_proofs.specs.ir_model.declared.operand.Operand.{Operand}
use Rattle.pass_proofs.specs.ir_paths.Windows.{destroy_label, operand_at, resume_label, suspend_of}
use Rattle.pass_proofs.specs.ir_paths.declared.point.Point.{Point}
use Rattle.pass_proofs.specs.ir_paths.declared.point.Window.{Window}
use Rattle.pass_proofs.specs.run_framed.Framed.{FramedGiven, alloca_from, are_finished_at, begin_given, begin_given_at, begin_in_block, begin_in_frame, continue_framed, disown_given, enter_after, enter_given, frame_around, framed_act, framed_advance, framed_begin, framed_context, framed_coro, framed_finish, framed_next, framed_promise, framed_slot, framed_step, freed_address, given_ramp, has_room, has_size, is_stack_block, reentry_values}
use Rattle.pass_proofs.specs.run_memory.Memory.{disown, own}
use Rattle.pass_proofs.specs.run_memory.declared.block.Kind.{Kind}
use Rattle.pass_proofs.specs.run_memory.declared.block.MemoryBlock.{MemoryBlock}
use Rattle.pass_proofs.specs.run_memory.declared.pointer.Offset.{Offset}
use Rattle.pass_proofs.specs.run_memory.declared.pointer.Pointer.{Pointer}
use Rattle.pass_proofs.specs.run_memory.declared.pointer.Value.{Value}
use Rattle.pass_proofs.specs.run_source.Source.{Sleeper, after_end, begin, begin_at, begun, branch_leaving, change_own, deallocate, destroy, done_at, end_of, enter_block, finish, if_let_go, is_live_at, leave, left_windows, may_be_freed, may_leave, let_go, pop, push, resume, resumed, return, returned, save, save_before, save_for, sleeper_at, slots_of, suspend}
use Rattle.pass_proofs.specs.run_source.State.{frame_address_of, function_of, gives, instance_at, next, or_undefined, own_frame, own_instance, point_of, settled, undefined, with_instance, with_left, with_memory, with_slots, with_status, work_of}
use Rattle.pass_proofs.specs.run_source.declared.state.Activation.{Activation}
use Rattle.pass_proofs.specs.run_source.declared.state.Instance.{Instance}
use Rattle.pass_proofs.specs.run_source.declared.state.Mode.{Mode}
use Rattle.pass_proofs.specs.run_source.declared.state.State.{State}
use Rattle.pass_proofs.specs.run_source.declared.state.Status.{Status}
use Rattle.pass_proofs.specs.run_source_tables.Given.{has_final, is_final}
use Rattle.pass_proofs.specs.run_step.Results.{and_then, found, ok_if}
use Rattle.pass_proofs.specs.run_step.Step.{Action, AtInstr, AtTerm, Coro, Deallocate, Done, Enter, Fetched, GoTo, NewSlot, Nowhere, Return, Stuck, action_of, block_of, deallocated, fetch, outcome_of, without_slots}
use Rattle.pass_proofs.specs.run_step.Values.{Env, arg_values, integer, nth, truth_value}
use Rattle.pass_proofs.specs.run_step.declared.world.Slot.{Slot}

module _ (g : FramedGiven) (n : ℕ) where
  -- a step to a state that is counted so
  abbrev Commutes : (State → Result State Cause) → State → Type 0
  Commutes p s = counted_result n (p s) ≡ p (counted_state n s)

  abbrev begun_in : State → List MemoryBlock → ℕ → State
  begun_in s memory b = begun g.given (with_memory s memory) b 0

  abbrev saved_in : State → Point → Point → ℕ × Instance → State
  saved_in s p q y =
      with_left
      (with_instance s y.0 (record y.1 {
        status = Status.Suspended q s.top.values;
        last_save = Some (record { depth = length s.below; save = p });
      }))
      true

  abbrev saved_for : State → Point → Point → Option (ℕ × Instance) → Result State Cause
  saved_for s p q o = and_then (found Cause.State o) (λ y. ok_if (not y.1.freed) Cause.State (saved_in s p q y))

  abbrev left_in : State → ℕ → ℕ × Instance → State
  left_in s label y = enter_block g.given (with_left (with_status s y.0 y.1 Status.Running) false) label

  abbrev woken : State → Sleeper → ℕ → State
  woken s y label = continue_framed g s y.number y.instance y.suspend y.values label

  abbrev told : State → Option ℕ → Sleeper → State
  told s result y = gives s result (truth_value (is_final (function_at g.given.code y.instance.coroutine) y.suspend))

  abbrev disowned_at : State → ℕ × Instance → State
  disowned_at s y = with_memory s (disown s.world.memory y.1.block)

  then_counts : (r : Result State Cause) (q : State → State) → ((s : State) → counted_state n (q s)
      ≡ q (counted_state n s))
      → counted_result n (and_then r (λ s. Ok (q s))) ≡ and_then (counted_result n r) (λ s. Ok (q s))
  then_counts (Err cause) q h = refl
  then_counts (Ok s) q h = λ i. Ok (h s i)

  ok_counts : (t : Bool) (cause : Cause) (s z : State) → counted_state n s ≡ z
      → counted_result n (ok_if t cause s) ≡ ok_if t cause z
  ok_counts true cause s z e = λ i. Ok (e i)
  ok_counts false cause s z e = refl

  -- ---- slots, resumed activations

  enter_counts : (s : State) (from label : ℕ) (o : Option Point)
      → counted_state n (enter_after g s from label o) ≡ enter_after g (counted_state n s) from label o
  enter_counts s from label (Some p) = refl
  enter_counts s from label None = refl

  slot_counts : (s : State) (slot : Slot) (mode : Mode)
      → counted_state n (framed_slot g s slot mode) ≡ framed_slot g (counted_state n s) slot mode
  slot_counts s slot Mode.Plain = refl
  slot_counts s slot Mode.Ramp = refl
  slot_counts s slot Mode.Resumed = refl
  slot_counts s slot (Mode.GivenRamp frame) = refl
  slot_counts s slot (Mode.Entering from label) =
      enter_counts (with_slots s (slot ∷ s.top.slots)) from label
      (alloca_from (function_of g.given s) s.top.at)

  go_counts : (s : State) (i : ℕ) (x : Instance) (p : Point) (values : Env) (label : ℕ)
      → counted_state n (continue_framed g s i x p values label)
      ≡ continue_framed g (counted_state n s) i x p values label
  go_counts s i x p values label =
      enter_counts (push (with_status s i x Status.Running) (resumed i x p (reentry_values
      (function_at g.given.code x.coroutine) (frame_address_of x))))
      p.block label (alloca_from (function_at g.given.code x.coroutine) 0)

  -- ---- begin

  begin_at_counts : (s : State) (mem : Value) (kind : Kind) → Commutes (λ s. begin_at g.given s mem kind) s
  begin_at_counts s mem kind = on (own s.world.memory mem (own_frame g.given s).size kind)
    where
      at : (memory : List MemoryBlock) (o : Option ℕ)
          → counted_result n (and_then (found Cause.Begin o) (λ b. Ok (begun_in s memory b)))
          ≡ and_then (found Cause.Begin o) (λ b. Ok (begun_in (counted_state n s) memory b))
      at memory None = refl
      at memory (Some b) = refl

      on : (r : Result (List MemoryBlock) Cause)
          → counted_result n (and_then r (λ memory. and_then (found Cause.Begin (block_of mem))
          (λ b. Ok (begun_in s memory b))))
          ≡ and_then r (λ memory. and_then (found Cause.Begin (block_of mem))
          (λ b. Ok (begun_in (counted_state n s) memory b)))
      on (Err cause) = refl
      on (Ok memory) = at memory (block_of mem)

  begin_counts : (s : State) (result : Option ℕ) (mem : Value) → Commutes (λ s. begin g.given s result mem) s
  begin_counts s result mem = on (is_none s.top.instance)
    where
      on : (t : Bool)
          → counted_result n (and_then (ok_if t Cause.Begin s)
          (λ s. and_then (begin_at g.given s mem Kind.Allocator) (λ s. Ok (gives s result mem))))
          ≡ and_then (ok_if t Cause.Begin (counted_state n s))
          (λ s. and_then (begin_at g.given s mem Kind.Allocator) (λ s. Ok (gives s result mem)))
      on true =
          then_counts (begin_at g.given s mem Kind.Allocator) (λ s. gives s result mem) (λ s. refl)
          ∙ ap (λ (r : Result State Cause). and_then r (λ s. Ok (gives s result mem)))
          (begin_at_counts s mem Kind.Allocator)
      on false = refl

  block_counts : (s : State) (b : ℕ) (o : Offset) → Commutes (λ s. begin_in_block g s b o) s
  block_counts s b o = on ((o.bits == 0) && has_size s.world.memory b (own_frame g.given s).size)
    where
      on : (t : Bool)
          → counted_result n (and_then (ok_if t Cause.Begin s)
          (λ s. begin_at g.given s (Value.Ptr (Pointer.At b o)) Kind.Stack))
          ≡ and_then (ok_if t Cause.Begin (counted_state n s))
          (λ s. begin_at g.given s (Value.Ptr (Pointer.At b o)) Kind.Stack)
      on true = begin_at_counts s (Value.Ptr (Pointer.At b o)) Kind.Stack
      on false = refl

  frame_counts : (s : State) (b : ℕ) (o : Offset) → Commutes (λ s. begin_in_frame g s b o) s
  frame_counts s b o =
      ok_counts (is_live_at s.world.memory b) Cause.Begin (begun g.given s b o.bits)
      (begun g.given (counted_state n s) b o.bits) refl

  given_at_counts : (s : State) (frame : Value) → Commutes (λ s. begin_given_at g s frame) s
  given_at_counts s (Value.Ptr (Pointer.At b o)) =
      on (has_room g o.bits (own_frame g.given s).size (frame_around g s.instances b o.bits))
    where
      on : (t : Bool)
          → counted_result n (if t then begin_in_frame g s b o else begin_in_block g s b o)
          ≡ (if t then begin_in_frame g (counted_state n s) b o else begin_in_block g (counted_state n s) b o)
      on true = frame_counts s b o
      on false = block_counts s b o
  given_at_counts s (Value.Ptr Pointer.Null) = refl
  given_at_counts s (Value.Ptr (Pointer.Func f)) = refl
  given_at_counts s (Value.Int w) = refl
  given_at_counts s Value.Poison = refl

  given_counts : (s : State) (result : Option ℕ) (frame : Value) → Commutes (λ s. begin_given g s result frame) s
  given_counts s result frame = on (is_none s.top.instance && are_finished_at s.instances frame)
    where
      on : (t : Bool)
          → counted_result n (and_then (ok_if t Cause.Begin s) (λ s. and_then (begin_given_at g s frame)
          (λ s. Ok (gives s result frame))))
          ≡ and_then (ok_if t Cause.Begin (counted_state n s)) (λ s. and_then (begin_given_at g s frame)
          (λ s. Ok (gives s result frame)))
      on true =
          then_counts (begin_given_at g s frame) (λ s. gives s result frame) (λ s. refl)
          ∙ ap (λ (r : Result State Cause). and_then r (λ s. Ok (gives s result frame))) (given_at_counts s frame)
      on false = refl

  framed_begin_counts : (s : State) (result : Option ℕ) (mem : Value) (mode : Mode)
      → Commutes (λ s. framed_begin g s result mem mode) s
  framed_begin_counts s result mem (Mode.GivenRamp frame) = given_counts s result frame
  framed_begin_counts s result mem Mode.Plain = begin_counts s result mem
  framed_begin_counts s result mem Mode.Ramp = begin_counts s result mem
  framed_begin_counts s result mem Mode.Resumed = begin_counts s result mem
  framed_begin_counts s result mem (Mode.Entering from label) = begin_counts s result mem

  -- ---- save and suspend

  save_for_counts : (s : State) (p q : Point) → Commutes (λ s. save_for s p q) s
  save_for_counts s p q = on (own_instance s)
    where
      on : (o : Option (ℕ × Instance)) → counted_result n (saved_for s p q o) ≡ saved_for (counted_state n s) p q o
      on None = refl
      on (Some y) = ok_counts (not y.1.freed) Cause.State (saved_in s p q y) (saved_in (counted_state n s) p q y) refl

  save_counts : (s : State) → Commutes (λ s. save g.given s) s
  save_counts s = on (suspend_of (function_of g.given s) (point_of s))
    where
      on : (o : Option Point)
          → counted_result n (and_then (found Cause.State o) (λ q. and_then (save_for s (point_of s) q)
          (λ s. Ok (next s))))
          ≡ and_then (found Cause.State o) (λ q. and_then (save_for (counted_state n s) (point_of s) q)
          (λ s. Ok (next s)))
      on None = refl
      on (Some q) =
          then_counts (save_for s (point_of s) q) next (λ s. refl)
          ∙ ap (λ (r : Result State Cause). and_then r (λ s. Ok (next s))) (save_for_counts s (point_of s) q)

  before_counts : (s : State) (x : Operand) → Commutes (λ s. save_before s x) s
  before_counts s Operand.None = save_for_counts s (point_of s) (point_of s)
  before_counts s (Operand.Local v) = refl
  before_counts s (Operand.Global name) = refl
  before_counts s (Operand.Number z) = refl
  before_counts s Operand.True = refl
  before_counts s Operand.False = refl
  before_counts s Operand.Null = refl
  before_counts s Operand.Poison = refl

  suspend_counts : (s : State) (result : Option ℕ) (x : Operand) → Commutes (λ s. suspend s result x) s
  suspend_counts s result x =
      then_counts (save_before s x) (λ z. gives z result (integer 8 (negsuc 0))) (λ z. refl)
      ∙ ap (λ (r : Result State Cause). and_then r (λ z. Ok (gives z result (integer 8 (negsuc 0)))))
      (before_counts s x)

  -- ---- returns and ends

  pop_counts : (s : State) (v : Option Value) (below : List Activation) → Commutes (λ s. pop s v below) s
  pop_counts s v [] = on (outcome_of v)
    where
      on : (r : Result Outcome Cause)
          → counted_result n (and_then r (λ outcome. Ok (record s { outcome = outcome })))
          ≡ and_then r (λ outcome. Ok (record (counted_state n s) { outcome = outcome }))
      on (Err cause) = refl
      on (Ok outcome) = refl
  pop_counts s v (a ∷ below) = refl

  return_counts : (s : State) (v : Option Value) → Commutes (λ s. return s v) s
  return_counts s v = pop_counts (returned s) v s.below

  after_counts : (s : State) (result : Option ℕ) (mode : Mode) → Commutes (λ s. after_end s result mode) s
  after_counts s result Mode.Resumed = return_counts s None
  after_counts s result Mode.Plain = refl
  after_counts s result Mode.Ramp = refl
  after_counts s result (Mode.GivenRamp frame) = refl
  after_counts s result (Mode.Entering from label) = refl

  change_counts : (s : State) (f : Instance → Instance) (o : Option (ℕ × Instance))
      → counted_state n (change_own s f o) ≡ change_own (counted_state n s) f o
  change_counts s f None = refl
  change_counts s f (Some y) = refl

  disown_counts : (s : State) (o : Option (ℕ × Instance))
      → counted_state n (disown_given s o) ≡ disown_given (counted_state n s) o
  disown_counts s None = refl
  disown_counts s (Some y) = on (is_stack_block s.world.memory y.1.block && (y.1.start == 0))
    where
      on : (t : Bool) → counted_state n (if t then disowned_at s y else s)
          ≡ (if t then disowned_at (counted_state n s) y else counted_state n s)
      on true = refl
      on false = refl

  finish_counts : (s : State) → counted_state n (finish s) ≡ finish (counted_state n s)
  finish_counts s =
      ap (λ (z : State). with_memory z (without_slots s.world.memory (slots_of (own_instance s))))
      (change_counts s (λ x. record x { status = Status.Finished }) (own_instance s))

  framed_finish_counts : (s : State) → counted_state n (framed_finish s) ≡ framed_finish (counted_state n s)
  framed_finish_counts s =
      disown_counts (finish s) (own_instance s)
      ∙ ap (λ (z : State). disown_given z (own_instance s)) (finish_counts s)

  end_counts : (s : State) (result : Option ℕ) → Commutes (λ s. end_of s framed_finish result) s
  end_counts s result =
      after_counts (if s.top.has_left then s else framed_finish s) result s.top.mode
      ∙ ap (λ (z : State). after_end z result s.top.mode) (on s.top.has_left)
    where
      on : (t : Bool) → counted_state n (if t then s else framed_finish s)
          ≡ (if t then counted_state n s else framed_finish (counted_state n s))
      on true = refl
      on false = framed_finish_counts s

  -- ---- resume, destroy, done, promise

  abbrev resumed_by : State → Sleeper → Result State Cause
  resumed_by s y =
      ok_if (not (is_final (function_at g.given.code y.instance.coroutine) y.suspend)) Cause.State
      (woken s y (resume_label (function_at g.given.code y.instance.coroutine) y.suspend))

  resume_counts : (s : State) (p : Value) → Commutes (λ s. resume g.given (continue_framed g) s p) s
  resume_counts s p = on (sleeper_at s p)
    where
      on : (r : Result Sleeper Cause) → counted_result n (and_then r (resumed_by s))
          ≡ and_then r (resumed_by (counted_state n s))
      on (Err cause) = refl
      on (Ok y) =
          ok_counts (not (is_final (function_at g.given.code y.instance.coroutine) y.suspend)) Cause.State
          (woken s y (resume_label (function_at g.given.code y.instance.coroutine) y.suspend))
          (woken (counted_state n s) y (resume_label (function_at g.given.code y.instance.coroutine) y.suspend))
          (go_counts s y.number y.instance y.suspend y.values
          (resume_label (function_at g.given.code y.instance.coroutine) y.suspend))

  abbrev destroyed_by : State → Sleeper → Result State Cause
  destroyed_by s y =
      Ok (woken s y (destroy_label (function_at g.given.code y.instance.coroutine) y.suspend))

  destroy_counts : (s : State) (p : Value) → Commutes (λ s. destroy g.given (continue_framed g) s p) s
  destroy_counts s p = on (sleeper_at s p)
    where
      on : (r : Result Sleeper Cause) → counted_result n (and_then r (destroyed_by s))
          ≡ and_then r (destroyed_by (counted_state n s))
      on (Err cause) = refl
      on (Ok y) =
          λ i. Ok (go_counts s y.number y.instance y.suspend y.values
          (destroy_label (function_at g.given.code y.instance.coroutine) y.suspend) i)

  abbrev done_by : Option ℕ → State → Sleeper → Result State Cause
  done_by result s y =
      ok_if (has_final (function_at g.given.code y.instance.coroutine)) Cause.State (told s result y)

  done_counts : (s : State) (result : Option ℕ) (p : Value) → Commutes (λ s. done_at g.given s result p) s
  done_counts s result p = on (sleeper_at s p)
    where
      on : (r : Result Sleeper Cause) → counted_result n (and_then r (done_by result s))
          ≡ and_then r (done_by result (counted_state n s))
      on (Err cause) = refl
      on (Ok y) =
          ok_counts (has_final (function_at g.given.code y.instance.coroutine)) Cause.State (told s result y)
          (told (counted_state n s) result y) refl

  gives_counts : (s : State) (result : Option ℕ) (r : Result Value Cause)
      → counted_result n (and_then r (λ v. Ok (gives s result v)))
      ≡ and_then r (λ v. Ok (gives (counted_state n s) result v))
  gives_counts s result (Err cause) = refl
  gives_counts s result (Ok v) = refl

  -- ---- coro intrinsics

  coro_counts : (s : State) (i : Intrinsic) (args : List Arg) (vs : List Value) (result : Option ℕ)
      → Commutes (λ s. framed_coro g s i args vs result) s
  coro_counts s Intrinsic.CoroId args vs result = refl
  coro_counts s Intrinsic.CoroSizeI32 args vs result = refl
  coro_counts s Intrinsic.CoroSizeI64 args vs result = refl
  coro_counts s Intrinsic.CoroAlignI32 args vs result = refl
  coro_counts s Intrinsic.CoroAlignI64 args vs result = refl
  coro_counts s Intrinsic.CoroAlloc args vs result = refl
  coro_counts s Intrinsic.CoroBegin args vs result = framed_begin_counts s result (nth vs 1) s.top.mode
  coro_counts s Intrinsic.CoroFree args vs result =
      ap (λ (z : State). Ok (gives z result (freed_address s.world.memory (own_instance s))))
      (change_counts s (λ x. record x { released = true }) (own_instance s))
  coro_counts s Intrinsic.CoroFrame args vs result = refl
  coro_counts s Intrinsic.CoroSave args vs result = save_counts s
  coro_counts s Intrinsic.CoroSuspend args vs result = suspend_counts s result (operand_at args 0)
  coro_counts s Intrinsic.CoroEnd args vs result = end_counts s result
  coro_counts s Intrinsic.CoroResume args vs result = resume_counts s (nth vs 0)
  coro_counts s Intrinsic.CoroDestroy args vs result = destroy_counts s (nth vs 0)
  coro_counts s Intrinsic.CoroDone args vs result = done_counts s result (nth vs 0)
  coro_counts s Intrinsic.CoroPromise args vs result =
      gives_counts s result (framed_promise g s (nth vs 0) (operand_at args 2))
  coro_counts s Intrinsic.LifetimeStart args vs result = refl
  coro_counts s Intrinsic.LifetimeEnd args vs result = refl
  coro_counts s Intrinsic.MemcpyI64 args vs result = refl
  coro_counts s Intrinsic.MemcpyI32 args vs result = refl

  -- ---- deallocation and branches

  abbrev freed_by : State → Value → Result State Cause
  freed_by s p = and_then (deallocated s.world.memory p) (λ memory. Ok (next (with_memory s memory)))

  freed_counts : (s : State) (p : Value) → Commutes (λ s. freed_by s p) s
  freed_counts s p = on (deallocated s.world.memory p)
    where
      on : (r : Result (List MemoryBlock) Cause)
          → counted_result n (and_then r (λ memory. Ok (next (with_memory s memory))))
          ≡ and_then r (λ memory. Ok (next (with_memory (counted_state n s) memory)))
      on (Err cause) = refl
      on (Ok memory) = refl

  let_go_counts : (s : State) (o : Option (ℕ × Instance))
      → counted_state n (if_let_go s o) ≡ if_let_go (counted_state n s) o
  let_go_counts s None = refl
  let_go_counts s (Some y) = on (may_be_freed y.1)
    where
      on : (t : Bool) → counted_state n (if t then let_go s y.0 y.1 else s)
          ≡ (if t then let_go (counted_state n s) y.0 y.1 else counted_state n s)
      on true = refl
      on false = refl

  deallocate_counts : (s : State) (p : Value) → Commutes (λ s. deallocate s p) s
  deallocate_counts s p =
      freed_counts (if_let_go s (instance_at s.instances p)) p
      ∙ ap (λ (z : State). freed_by z p) (let_go_counts s (instance_at s.instances p))

  abbrev left_by : List Window → ℕ → State → ℕ × Instance → Result State Cause
  left_by ws label s y = ok_if (list_all (may_leave (length s.below) y.1) ws) Cause.State (left_in s label y)

  leave_counts : (s : State) (label : ℕ) (ws : List Window) → Commutes (λ s. leave g.given s label ws) s
  leave_counts s label ws = on (own_instance s)
    where
      on : (o : Option (ℕ × Instance))
          → counted_result n (and_then (found Cause.State o) (left_by ws label s))
          ≡ and_then (found Cause.State o) (left_by ws label (counted_state n s))
      on None = refl
      on (Some y) = ok_counts (list_all (may_leave (length s.below) y.1) ws) Cause.State (left_in s label y)
          (left_in (counted_state n s) label y) refl

  branch_counts : (s : State) (label : ℕ) (ws : List Window) → Commutes (λ s. branch_leaving g.given s label ws) s
  branch_counts s label [] = refl
  branch_counts s label (w ∷ ws) = leave_counts s label (w ∷ ws)

  -- ---- actions

  act_counts : (s : State) (a : Action)
      → counted_result n (framed_act g s a) ≡ framed_act g (counted_state n s) (counted_action n a)
  act_counts s (Done w) = refl
  act_counts s (NewSlot w slot) =
      λ i. Ok (slot_counts (settled s w) slot s.top.mode i)
  act_counts s (Enter func args result must_tail) = refl
  act_counts s (Coro i args result) =
      coro_counts s i args (arg_values g.given.code s.top.values args) result
  act_counts s (Deallocate p) = deallocate_counts s p
  act_counts s (GoTo label) = branch_counts s label (left_windows g.given s label)
  act_counts s (Return v) = return_counts s v
  act_counts s (Stuck cause) = refl

  -- ---- steps

  module _ (k : ℕ) (s : State) where
    -- the same state with another count
    abbrev z : State
    z = counted_state k s

    acted : (x : Fetched)
        → counted_result n (framed_act g z (action_of (framed_context g z) (work_of z) x))
        ≡ counted_result n (framed_act g s (action_of (framed_context g s) (work_of s) x))
    acted x =
        act_counts z (action_of (framed_context g z) (work_of z) x)
        ∙ (ap (framed_act g (counted_state n s)) (step_same n k (framed_context g s) (work_of s) x)
        ∙ sym (act_counts s (action_of (framed_context g s) (work_of s) x)))

    abbrev Goes : Fetched → Option (Result State Cause) → Option (Result State Cause) → Type 0
    Goes x a b =
        counted_result n (unwrap_or a (framed_act g z (action_of (framed_context g z) (work_of z) x)))
        ≡ counted_result n (unwrap_or b (framed_act g s (action_of (framed_context g s) (work_of s) x)))

    named_goes : (x : Fetched) (result : Option ℕ) (vs : List Value) (o : Option ℕ)
        → Goes x (enter_given g z result vs o) (enter_given g s result vs o)
    named_goes x result vs None = acted x
    named_goes x result vs (Some func) = refl

    next_same : (x : Fetched) → counted_result n (framed_next g z x) ≡ counted_result n (framed_next g s x)
    next_same Nowhere = acted Nowhere
    next_same (AtTerm t) = acted (AtTerm t)
    next_same (AtInstr (Instr.Call result must_tail ty (Callee.Named name) args)) =
        named_goes (AtInstr (Instr.Call result must_tail ty (Callee.Named name) args)) result
        (arg_values g.given.code s.top.values args) (given_ramp g.given.code name)
    next_same (AtInstr (Instr.Call result must_tail ty (Callee.Allocator a) args)) =
        acted (AtInstr (Instr.Call result must_tail ty (Callee.Allocator a) args))
    next_same (AtInstr (Instr.Call result must_tail ty (Callee.Intrinsic i) args)) =
        acted (AtInstr (Instr.Call result must_tail ty (Callee.Intrinsic i) args))
    next_same (AtInstr (Instr.Call result must_tail ty (Callee.Local v) args)) =
        acted (AtInstr (Instr.Call result must_tail ty (Callee.Local v) args))
    next_same (AtInstr (Instr.Binary name op flags ty a b)) = acted (AtInstr (Instr.Binary name op flags ty a b))
    next_same (AtInstr (Instr.Icmp name pred ty a b)) = acted (AtInstr (Instr.Icmp name pred ty a b))
    next_same (AtInstr (Instr.Select name x a b)) = acted (AtInstr (Instr.Select name x a b))
    next_same (AtInstr (Instr.Cast name op nneg arg to)) = acted (AtInstr (Instr.Cast name op nneg arg to))
    next_same (AtInstr (Instr.Alloca name ty align)) = acted (AtInstr (Instr.Alloca name ty align))
    next_same (AtInstr (Instr.Load name ty p align)) = acted (AtInstr (Instr.Load name ty p align))
    next_same (AtInstr (Instr.Store arg p align)) = acted (AtInstr (Instr.Store arg p align))
    next_same (AtInstr (Instr.Gep name inbounds ty base indices)) =
        acted (AtInstr (Instr.Gep name inbounds ty base indices))

    ended_same : (a b : Result State Cause) → counted_result n a ≡ counted_result n b
        → counted_state n (or_undefined g.given z a) ≡ counted_state n (or_undefined g.given s b)
    ended_same (Err c) (Err d) e = let same : c ≡ d = cc in λ i. counted_state n (undefined g.given s (same i))
    ended_same (Err c) (Ok u) e = absurd (cc)
    ended_same (Ok t) (Err d) e = absurd (cc)
    ended_same (Ok t) (Ok u) e = cc

    advance_same : (o : Outcome) → counted_state n (framed_advance g z o) ≡ counted_state n (framed_advance g s o)
    advance_same Outcome.Running =
        ended_same _ _ (next_same (fetch (function_of g.given s) s.top.block s.top.at))
    advance_same (Outcome.Returned v) = refl
    advance_same (Outcome.Undefined cause place) = refl

    pub uncounted_step : counted_state n (framed_step g z) ≡ counted_state n (framed_step g s)
    uncounted_step = advance_same s.outcome
