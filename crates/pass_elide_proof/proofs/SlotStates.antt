-- Each step of a framed run leaves slots that lead to blocks that there are.
use Rattle.std.proofs.Common.{◌≡◌, ◌<◌, ◌≤◌, ℕ, zero, suc, Bool, true, false, not, List, [], ◌∷◌, ◌++◌, length, cond, Option, Result, Ok, Err, refl, sym, ap, ◌∙◌, arith, if◌then◌else◌, ◌&&◌, ◌==◌}
use Rattle.std.specs.List.{list_all}
use Rattle.std.specs.Prelude.{None, Some, filter, is_none, slice_get, unwrap_or}
use Rattle.pass_elide_proof.proofs.ChangedBoth.{changed_many}
use Rattle.pass_elide_proof.proofs.SameCounts.{IsNoAllocation, KeepsCount, count_stays}
use Rattle.pass_elide_proof.proofs.SlotsLead.{IsAsWide, all_wider, memory_wider}
use Rattle.pass_elide_proof.specs.Making.{HasSlotsIn, HaveSlots}
use Rattle.pass_proofs.proofs.run_laws.access.Walk.{Comes}
use Rattle.pass_proofs.specs.ir_base.declared.cause.Cause.{Cause}
use Rattle.pass_proofs.specs.ir_base.declared.outcome.Outcome.{Outcome}
use Rattle.pass_proofs.specs.ir_base.declared.outcome.Word.{Word}
use Rattle.pass_proofs.specs.ir_model.Names.{function_at}
use Rattle.pass_proofs.specs.ir_model.Ty.{int}
use Rattle.pass_proofs.specs.ir_model.declared.instr.Case.{Case}
use Rattle.pass_proofs.specs.ir_model.declared.instr.Instr.{Instr}
use Rattle.pass_proofs.specs.ir_model.declared.instr.Terminator.{Terminator}
use Rattle.pass_proofs.specs.ir_model.declared.operand.Allocator.{Allocator}
use Rattle.pass_proofs.specs.ir_model.declared.operand.Arg.{Arg}
use Rattle.pass_proofs.specs.ir_model.declared.operand.Callee.{Callee}
use Rattle.pass_proofs.specs.ir_model.declared.operand.Intrinsic.{Intrinsic}
use Rattle.pass_proofs.specs.ir_model.declared.operand.Operand.{Operand}
use Rattle.pass_proofs.specs.ir_paths.Windows.{destroy_label, operand_at, resume_label, suspend_of}
use Rattle.pass_proofs.specs.ir_paths.declared.point.Point.{Point}
use Rattle.pass_proofs.specs.ir_paths.declared.point.Window.{Window}
use Rattle.pass_proofs.specs.run_framed.Framed.{FramedGiven, alloca_from, are_finished_at, begin_given, begin_given_at, begin_in_block, begin_in_frame, continue_framed, disown_given, enter_after, enter_given, frame_around, framed_act, framed_advance, framed_begin, framed_context, framed_coro, framed_finish, framed_next, framed_promise, framed_slot, framed_state_at, framed_step, given_call, given_ramp, has_room, has_size, is_stack_block, reentry_values}
use Rattle.pass_proofs.specs.run_laws.changed.Changed.{Each}
use Rattle.pass_proofs.specs.run_memory.Memory.{check, disown, disowned, is_owned, is_unkilled, killed, killed_block, may_be_owned, own, owned_to, with_block}
use Rattle.pass_proofs.specs.run_memory.declared.block.Kind.{Kind}
use Rattle.pass_proofs.specs.run_memory.declared.block.MemoryBlock.{MemoryBlock}
use Rattle.pass_proofs.specs.run_memory.declared.pointer.Offset.{Offset}
use Rattle.pass_proofs.specs.run_memory.declared.pointer.Pointer.{Pointer}
use Rattle.pass_proofs.specs.run_memory.declared.pointer.Value.{Value}
use Rattle.pass_proofs.specs.run_source.Source.{after_end, begin, begin_at, begun, branch_leaving, change_own, deallocate, destroy, done_at, finish, first_state, if_let_go, is_among, is_live_at, left_windows, let_go, may_be_freed, may_leave, pop, push, resume, resumed, return, returned, save, save_before, save_for, sleeper_at, slots_of, suspend}
use Rattle.pass_proofs.specs.run_source.State.{frame_address_of, function_of, instance_at, or_undefined, own_facts, own_frame, own_instance, point_of, settled, with_instance, with_memory, with_slots, with_status, work_of}
use Rattle.pass_proofs.specs.run_source.declared.state.Activation.{Activation}
use Rattle.pass_proofs.specs.run_source.declared.state.Instance.{Instance}
use Rattle.pass_proofs.specs.run_source.declared.state.Mode.{Mode}
use Rattle.pass_proofs.specs.run_source.declared.state.State.{State}
use Rattle.pass_proofs.specs.run_source.declared.state.Status.{Status}
use Rattle.pass_proofs.specs.run_source_tables.Given.{has_final, is_final}
use Rattle.pass_proofs.specs.run_step.Results.{and_then, found, ok_if}
use Rattle.pass_proofs.specs.run_step.Runs.{iterate}
use Rattle.pass_proofs.specs.run_step.Step.{Action, AtInstr, AtTerm, Context, Coro, Deallocate, Done, Enter, Fetched, GoTo, NewSlot, Nowhere, Return, Stuck, Work, action_of, allocated, block_of, branch, deallocated, fetch, outcome_of, switch, value_at, with_length, without_slots}
use Rattle.pass_proofs.specs.run_step.Values.{Env, arg_value, arg_values, nth}
use Rattle.pass_proofs.specs.run_step.declared.world.Slot.{Slot}

-- ---- slots that die

slots_die : (m : List MemoryBlock) (ss : List Slot) → length (without_slots m ss) ≡ length m
slots_die m [] = refl
slots_die m (z ∷ ss) = slots_die (killed m z.block) ss ∙ changed_many m z.block killed_block

-- ---- results

-- the state that a result holds has such slots
abbrev pub Fine : Result State Cause → Type 0
Fine (Err cause) = Unit {0}
Fine (Ok s) = HaveSlots s

then_fine : {A : Type 0} (r : Result A Cause) (f : A → Result State Cause) → ((a : A) → Fine (f a))
    → Fine (and_then r f)
then_fine (Err cause) f h = tt
then_fine (Ok a) f h = h a

state_fine : (r : Result State Cause) (f : State → Result State Cause) → Fine r
    → ((s : State) → HaveSlots s → Fine (f s)) → Fine (and_then r f)
state_fine (Err cause) f h k = tt
state_fine (Ok s) f h k = k s h

if_fine : (t : Bool) (cause : Cause) (s : State) → HaveSlots s → Fine (ok_if t cause s)
if_fine true cause s h = h
if_fine false cause s h = tt

then_known : {A : Type 0} (r : Result A Cause) (f : A → Result State Cause) → ((a : A) → r ≡ Ok a → Fine (f a))
    → Fine (and_then r f)
then_known (Err cause) f h = tt
then_known (Ok a) f h = h a refl

-- ---- memories of as many blocks

as_wide : (a b : ℕ) → b ≡ a → a ≤ b
as_wide a b e = omega (arith, e)

with_memory_fine : (s : State) (m : List MemoryBlock) → length m ≡ length s.world.memory → HaveSlots s
    → HaveSlots (with_memory s m)
with_memory_fine s m many h =
    all_wider s.world.memory m (as_wide (length s.world.memory) (length m) many) (s.top ∷ s.below) h

checked_many : (m k : List MemoryBlock) (b : ℕ) (f : MemoryBlock → MemoryBlock) (t : Bool) (cause : Cause)
    → check t cause (Ok (with_block m b f)) ≡ Ok k → length k ≡ length m
checked_many m k b f true cause e =
    let same : with_block m b f ≡ k = cc in ap length (sym same) ∙ changed_many m b f
checked_many m k b f false cause e = absurd (cc)

own_many : (m k : List MemoryBlock) (v : Value) (n : ℕ) (kind : Kind) → own m v n kind ≡ Ok k → length k ≡ length m
own_many m k (Value.Ptr (Pointer.At b o)) n kind e =
    checked_many m k b (owned_to n) ((o.bits == 0) && may_be_owned kind n (slice_get m b)) Cause.Begin e
own_many m k (Value.Ptr Pointer.Null) n kind e = absurd (cc)
own_many m k (Value.Ptr (Pointer.Func f)) n kind e = absurd (cc)
own_many m k Value.Poison n kind e = absurd (cc)
own_many m k (Value.Int x) n kind e = absurd (cc)

killed_many : (m k : List MemoryBlock) (b : ℕ) (t u : Bool)
    → (if not t then Err Cause.Free else if u then Err Cause.Owned else Ok (killed m b)) ≡ Ok k
    → length k ≡ length m
killed_many m k b true false e =
    let same : killed m b ≡ k = cc in ap length (sym same) ∙ changed_many m b killed_block
killed_many m k b true true e = absurd (cc)
killed_many m k b false u e = absurd (cc)

deallocated_many : (m k : List MemoryBlock) (p : Value) → deallocated m p ≡ Ok k → length k ≡ length m
deallocated_many m k (Value.Ptr Pointer.Null) e = let same : m ≡ k = cc in ap length (sym same)
deallocated_many m k (Value.Ptr (Pointer.At b o)) e =
    killed_many m k b ((o.bits == 0) && is_unkilled Kind.Allocator (slice_get m b)) (is_owned (slice_get m b)) e
deallocated_many m k (Value.Ptr (Pointer.Func f)) e = absurd (cc)
deallocated_many m k Value.Poison e = absurd (cc)
deallocated_many m k (Value.Int x) e = absurd (cc)

-- ---- instances

change_fine : (s : State) (f : Instance → Instance) (o : Option (ℕ × Instance)) → HaveSlots s
    → HaveSlots (change_own s f o)
change_fine s f None h = h
change_fine s f (Some (i, x)) h = h

change_keeps : (s : State) (f : Instance → Instance) (o : Option (ℕ × Instance))
    → (change_own s f o).world.memory ≡ s.world.memory
change_keeps s f None = refl
change_keeps s f (Some (i, x)) = refl

let_go_fine : (s : State) (o : Option (ℕ × Instance)) → HaveSlots s → HaveSlots (if_let_go s o)
let_go_fine s None h = h
let_go_fine s (Some (i, x)) h = on (may_be_freed x)
  where
    gone : HaveSlots (let_go s i x)
    gone =
        with_memory_fine (with_instance s i (record x { freed = true }))
        (disown (without_slots s.world.memory x.slots) x.block)
        (changed_many (without_slots s.world.memory x.slots) x.block disowned ∙ slots_die s.world.memory x.slots) h

    on : (t : Bool) → HaveSlots (if t then let_go s i x else s)
    on true = gone
    on false = h

-- ---- slots of which some are taken

kept_slots : (test : Slot → Bool) (n : ℕ) (ss : List Slot) → Each (λ (z : Slot). z.block < n) ss
    → Each (λ (z : Slot). z.block < n) (filter test ss ++ [])
kept_slots test n [] h = tt
kept_slots test n (z ∷ ss) h = on (test z) (kept_slots test n ss h.1)
  where
    on : (t : Bool) → Each (λ (y : Slot). y.block < n) (filter test ss ++ [])
        → Each (λ (y : Slot). y.block < n) (cond t (z ∷ filter test ss) (filter test ss) ++ [])
    on true rest = (h.0, rest)
    on false rest = rest

module _ (g : FramedGiven) where
  -- ---- begins

  begun_fine : (s : State) (b start : ℕ) → HaveSlots s → HaveSlots (begun g.given s b start)
  begun_fine s b start h =
      (kept_slots (is_among (own_facts g.given s).ramp_slots) (length s.world.memory) s.top.slots h.0, h.1)

  begin_at_fine : (s : State) (mem : Value) (kind : Kind) → HaveSlots s → Fine (begin_at g.given s mem kind)
  begin_at_fine s mem kind h =
      then_known (own s.world.memory mem (own_frame g.given s).size kind) _
      (λ memory is. then_fine (found Cause.Begin (block_of mem)) _
      (λ b. begun_fine (with_memory s memory) b 0
      (with_memory_fine s memory (own_many s.world.memory memory mem (own_frame g.given s).size kind is) h)))

  begin_fine : (s : State) (result : Option ℕ) (mem : Value) → HaveSlots s → Fine (begin g.given s result mem)
  begin_fine s result mem h =
      state_fine (ok_if (is_none s.top.instance) Cause.Begin s) _ (if_fine (is_none s.top.instance) Cause.Begin s h)
      (λ u k. state_fine (begin_at g.given u mem Kind.Allocator) _ (begin_at_fine u mem Kind.Allocator k) (λ v l. l))

  in_block_fine : (s : State) (b : ℕ) (o : Offset) → HaveSlots s → Fine (begin_in_block g s b o)
  in_block_fine s b o h =
      state_fine (ok_if ((o.bits == 0) && has_size s.world.memory b (own_frame g.given s).size) Cause.Begin s) _
      (if_fine ((o.bits == 0) && has_size s.world.memory b (own_frame g.given s).size) Cause.Begin s h)
      (λ u k. begin_at_fine u (Value.Ptr (Pointer.At b o)) Kind.Stack k)

  in_frame_fine : (s : State) (b : ℕ) (o : Offset) → HaveSlots s → Fine (begin_in_frame g s b o)
  in_frame_fine s b o h =
      if_fine (is_live_at s.world.memory b) Cause.Begin (begun g.given s b o.bits) (begun_fine s b o.bits h)

  given_at_fine : (s : State) (v : Value) → HaveSlots s → Fine (begin_given_at g s v)
  given_at_fine s (Value.Ptr (Pointer.At b o)) h =
      on (has_room g o.bits (own_frame g.given s).size (frame_around g s.instances b o.bits))
    where
      on : (t : Bool) → Fine (if t then begin_in_frame g s b o else begin_in_block g s b o)
      on true = in_frame_fine s b o h
      on false = in_block_fine s b o h
  given_at_fine s (Value.Ptr Pointer.Null) h = tt
  given_at_fine s (Value.Ptr (Pointer.Func f)) h = tt
  given_at_fine s Value.Poison h = tt
  given_at_fine s (Value.Int x) h = tt

  begin_given_fine : (s : State) (result : Option ℕ) (frame : Value) → HaveSlots s
      → Fine (begin_given g s result frame)
  begin_given_fine s result frame h =
      state_fine (ok_if (is_none s.top.instance && are_finished_at s.instances frame) Cause.Begin s) _
      (if_fine (is_none s.top.instance && are_finished_at s.instances frame) Cause.Begin s h)
      (λ u k. state_fine (begin_given_at g u frame) _ (given_at_fine u frame k) (λ v l. l))

  framed_begin_fine : (s : State) (result : Option ℕ) (mem : Value) (mode : Mode) → HaveSlots s
      → Fine (framed_begin g s result mem mode)
  framed_begin_fine s result mem (Mode.GivenRamp frame) h = begin_given_fine s result frame h
  framed_begin_fine s result mem Mode.Plain h = begin_fine s result mem h
  framed_begin_fine s result mem Mode.Ramp h = begin_fine s result mem h
  framed_begin_fine s result mem Mode.Resumed h = begin_fine s result mem h
  framed_begin_fine s result mem (Mode.Entering from label) h = begin_fine s result mem h

  -- ---- saves, suspends and resumes

  save_for_fine : (s : State) (p q : Point) → HaveSlots s → Fine (save_for s p q)
  save_for_fine s p q h =
      then_fine (found Cause.State (own_instance s)) _ (λ y. if_fine (not y.1.freed) Cause.State _ h)

  save_before_fine : (s : State) (x : Operand) → HaveSlots s → Fine (save_before s x)
  save_before_fine s Operand.None h = save_for_fine s (point_of s) (point_of s) h
  save_before_fine s (Operand.Local v) h = h
  save_before_fine s (Operand.Global n) h = h
  save_before_fine s (Operand.Number z) h = h
  save_before_fine s Operand.True h = h
  save_before_fine s Operand.False h = h
  save_before_fine s Operand.Null h = h
  save_before_fine s Operand.Poison h = h

  enter_fine : (s : State) (from label : ℕ) (o : Option Point) → HaveSlots s → HaveSlots (enter_after g s from label o)
  enter_fine s from label None h = h
  enter_fine s from label (Some p) h = h

  go_fine : (s : State) (i : ℕ) (x : Instance) (p : Point) (values : Env) (label : ℕ) → HaveSlots s
      → HaveSlots (continue_framed g s i x p values label)
  go_fine s i x p values label h =
      enter_fine (push (with_status s i x Status.Running) (resumed i x p (reentry_values
      (function_at g.given.code x.coroutine) (frame_address_of x))))
      p.block label (alloca_from (function_at g.given.code x.coroutine) 0) (tt, h)

  -- ---- returns and ends

  returned_fine : (s : State) → HaveSlots s → HaveSlots (returned s)
  returned_fine s h = (
    tt,
    all_wider s.world.memory (without_slots s.world.memory s.top.slots)
        (as_wide (length s.world.memory) (length (without_slots s.world.memory s.top.slots))
        (slots_die s.world.memory s.top.slots)) s.below h.1,
  )

  pop_fine : (s : State) (v : Option Value) (bs : List Activation) → HaveSlots s
      → Each (HasSlotsIn s.world.memory) bs → Fine (pop s v bs)
  pop_fine s v [] h k = then_fine (outcome_of v) _ (λ outcome. h)
  pop_fine s v (a ∷ bs) h k = k

  return_fine : (s : State) (v : Option Value) → HaveSlots s → Fine (return s v)
  return_fine s v h = let back = returned_fine s h in pop_fine (returned s) v s.below back back.1

  after_end_fine : (s : State) (result : Option ℕ) (mode : Mode) → HaveSlots s → Fine (after_end s result mode)
  after_end_fine s result Mode.Resumed h = return_fine s None h
  after_end_fine s result Mode.Plain h = h
  after_end_fine s result Mode.Ramp h = h
  after_end_fine s result (Mode.GivenRamp frame) h = h
  after_end_fine s result (Mode.Entering from label) h = h

  finish_fine : (s : State) → HaveSlots s → HaveSlots (finish s)
  finish_fine s h =
      let changed = change_own s (λ x. record x { status = Status.Finished }) (own_instance s) in
      with_memory_fine changed (without_slots s.world.memory (slots_of (own_instance s)))
      (slots_die s.world.memory (slots_of (own_instance s))
      ∙ ap length (sym (change_keeps s (λ x. record x { status = Status.Finished }) (own_instance s))))
      (change_fine s (λ x. record x { status = Status.Finished }) (own_instance s) h)

  disown_fine : (s : State) (o : Option (ℕ × Instance)) → HaveSlots s → HaveSlots (disown_given s o)
  disown_fine s None h = h
  disown_fine s (Some (i, x)) h = on (is_stack_block s.world.memory x.block && (x.start == 0))
    where
      on : (t : Bool) → HaveSlots (if t then with_memory s (disown s.world.memory x.block) else s)
      on true =
          with_memory_fine s (disown s.world.memory x.block) (changed_many s.world.memory x.block disowned) h
      on false = h

  end_fine : (s : State) (t : Bool) → HaveSlots s → HaveSlots (if t then s else framed_finish s)
  end_fine s true h = h
  end_fine s false h = disown_fine (finish s) (own_instance s) (finish_fine s h)

  -- ---- branches

  leave_fine : (s : State) (label : ℕ) (ws : List Window) → HaveSlots s → Fine (branch_leaving g.given s label ws)
  leave_fine s label [] h = h
  leave_fine s label (w ∷ ws) h =
      then_fine (found Cause.State (own_instance s)) _
      (λ y. if_fine (list_all (may_leave (length s.below) y.1) (w ∷ ws)) Cause.State _ h)

  -- ---- coro intrinsics

  save_fine : (s : State) → HaveSlots s → Fine (save g.given s)
  save_fine s h =
      then_fine (found Cause.State (suspend_of (function_of g.given s) (point_of s))) _
      (λ q. state_fine (save_for s (point_of s) q) _ (save_for_fine s (point_of s) q h) (λ u k. k))

  suspend_fine : (s : State) (result : Option ℕ) (x : Operand) → HaveSlots s → Fine (suspend s result x)
  suspend_fine s result x h = state_fine (save_before s x) _ (save_before_fine s x h) (λ u k. k)

  resume_fine : (s : State) (p : Value) → HaveSlots s → Fine (resume g.given (continue_framed g) s p)
  resume_fine s p h =
      then_fine (sleeper_at s p) _
      (λ y. if_fine (not (is_final (function_at g.given.code y.instance.coroutine) y.suspend)) Cause.State _
      (go_fine s y.number y.instance y.suspend y.values
      (resume_label (function_at g.given.code y.instance.coroutine) y.suspend) h))

  destroy_fine : (s : State) (p : Value) → HaveSlots s → Fine (destroy g.given (continue_framed g) s p)
  destroy_fine s p h =
      then_fine (sleeper_at s p) _
      (λ y. go_fine s y.number y.instance y.suspend y.values
      (destroy_label (function_at g.given.code y.instance.coroutine) y.suspend) h)

  done_fine : (s : State) (result : Option ℕ) (p : Value) → HaveSlots s → Fine (done_at g.given s result p)
  done_fine s result p h =
      then_fine (sleeper_at s p) _
      (λ y. if_fine (has_final (function_at g.given.code y.instance.coroutine)) Cause.State _ h)

  coro_fine : (s : State) (i : Intrinsic) (args : List Arg) (vs : List Value) (result : Option ℕ) → HaveSlots s
      → Fine (framed_coro g s i args vs result)
  coro_fine s Intrinsic.CoroAlloc args vs result h = h
  coro_fine s Intrinsic.CoroBegin args vs result h = framed_begin_fine s result (nth vs 1) s.top.mode h
  coro_fine s Intrinsic.CoroFree args vs result h =
      change_fine s (λ x. record x { released = true }) (own_instance s) h
  coro_fine s Intrinsic.CoroEnd args vs result h =
      after_end_fine (if s.top.has_left then s else framed_finish s) result s.top.mode (end_fine s s.top.has_left h)
  coro_fine s Intrinsic.CoroPromise args vs result h =
      then_fine (framed_promise g s (nth vs 0) (operand_at args 2)) _ (λ v. h)
  coro_fine s Intrinsic.CoroId args vs result h = h
  coro_fine s Intrinsic.CoroSizeI32 args vs result h = h
  coro_fine s Intrinsic.CoroSizeI64 args vs result h = h
  coro_fine s Intrinsic.CoroAlignI32 args vs result h = h
  coro_fine s Intrinsic.CoroAlignI64 args vs result h = h
  coro_fine s Intrinsic.CoroFrame args vs result h = h
  coro_fine s Intrinsic.CoroSave args vs result h = save_fine s h
  coro_fine s Intrinsic.CoroSuspend args vs result h = suspend_fine s result (operand_at args 0) h
  coro_fine s Intrinsic.CoroResume args vs result h = resume_fine s (nth vs 0) h
  coro_fine s Intrinsic.CoroDestroy args vs result h = destroy_fine s (nth vs 0) h
  coro_fine s Intrinsic.CoroDone args vs result h = done_fine s result (nth vs 0) h
  coro_fine s Intrinsic.LifetimeStart args vs result h = h
  coro_fine s Intrinsic.LifetimeEnd args vs result h = h
  coro_fine s Intrinsic.MemcpyI64 args vs result h = h
  coro_fine s Intrinsic.MemcpyI32 args vs result h = h

  -- ---- actions

  deallocate_fine : (s : State) (p : Value) → HaveSlots s → Fine (deallocate s p)
  deallocate_fine s p h =
      let gone = if_let_go s (instance_at s.instances p) in
      then_known (deallocated gone.world.memory p) _
      (λ memory is. with_memory_fine gone memory (deallocated_many gone.world.memory memory p is)
      (let_go_fine s (instance_at s.instances p) h))

  slot_fine : (s : State) (slot : Slot) (mode : Mode) → HaveSlots (with_slots s (slot ∷ s.top.slots))
      → HaveSlots (framed_slot g s slot mode)
  slot_fine s slot Mode.Plain h = h
  slot_fine s slot Mode.Ramp h = h
  slot_fine s slot Mode.Resumed h = h
  slot_fine s slot (Mode.GivenRamp frame) h = h
  slot_fine s slot (Mode.Entering from label) h =
      enter_fine (with_slots s (slot ∷ s.top.slots)) from label (alloca_from (function_of g.given s) s.top.at) h

  -- a new slot leads to a block that there is
  abbrev SlotWithin : Action → Type 0
  SlotWithin (NewSlot w slot) = slot.block < length w.world.memory
  SlotWithin _ = Unit {0}

  abbrev Any : List MemoryBlock → Type 0
  Any k = Unit {0}

  act_fine : (s : State) (a : Action) → Comes (IsAsWide s.world.memory) Any s.world.memory a → SlotWithin a
      → HaveSlots s → Fine (framed_act g s a)
  act_fine s (Done w) wide within h = all_wider s.world.memory w.world.memory wide (s.top ∷ s.below) h
  act_fine s (NewSlot w slot) wide within h =
      let old = all_wider s.world.memory w.world.memory wide (s.top ∷ s.below) h in
      slot_fine (settled s w) slot s.top.mode ((within, old.0), old.1)
  act_fine s (Enter func args result must_tail) wide within h = (tt, h)
  act_fine s (Coro i args result) wide within h =
      coro_fine s i args (arg_values g.given.code s.top.values args) result h
  act_fine s (Deallocate p) wide within h = deallocate_fine s p h
  act_fine s (GoTo label) wide within h = leave_fine s label (left_windows g.given s label) h
  act_fine s (Return v) wide within h = return_fine s v h
  act_fine s (Stuck cause) wide within h = tt

  -- ---- steps

  module _ (c : Context) (w : Work) where
    of_count : (a : Action) → KeepsCount c w a → SlotWithin a
    of_count (NewSlot v slot) h = h.1
    of_count (Done v) h = tt
    of_count (Enter func args result must_tail) h = tt
    of_count (Coro i args result) h = tt
    of_count (Deallocate p) h = tt
    of_count (GoTo label) h = tt
    of_count (Return v) h = tt
    of_count (Stuck cause) h = tt

    by_length : (v : Value) (f : ℕ → Work) → SlotWithin (with_length v (λ k. Done (f k)))
    by_length (Value.Int x) f = tt
    by_length Value.Poison f = tt
    by_length (Value.Ptr p) f = tt

    branch_within : (v : Value) (a b : ℕ) → SlotWithin (branch v a b)
    branch_within (Value.Int x) a b = tt
    branch_within Value.Poison a b = tt
    branch_within (Value.Ptr p) a b = tt

    switch_within : (v : Value) (default : ℕ) (cases : List Case) → SlotWithin (switch c.code v default cases)
    switch_within (Value.Int x) default cases = tt
    switch_within Value.Poison default cases = tt
    switch_within (Value.Ptr p) default cases = tt

    within_by : (i : Instr) → IsNoAllocation i → SlotWithin (action_of c w (AtInstr i))
    within_by i h = of_count (action_of c w (AtInstr i)) (count_stays c w i h)

    slot_within : (here : Fetched) → SlotWithin (action_of c w here)
    slot_within Nowhere = tt
    slot_within (AtTerm (Terminator.Jump label)) = tt
    slot_within (AtTerm (Terminator.Branch x a b)) = branch_within (value_at c w (int 1) x) a b
    slot_within (AtTerm (Terminator.Switch arg default cases)) =
        switch_within (arg_value c.code w.values arg) default cases
    slot_within (AtTerm (Terminator.Ret None)) = tt
    slot_within (AtTerm (Terminator.Ret (Some arg))) = tt
    slot_within (AtTerm Terminator.Unreachable) = tt
    slot_within (AtInstr (Instr.Call result must_tail ty (Callee.Allocator Allocator.Malloc) args)) =
        by_length (nth (arg_values c.code w.values args) 0) (allocated w result)
    slot_within (AtInstr (Instr.Call result must_tail ty (Callee.Allocator Allocator.Znwm) args)) =
        by_length (nth (arg_values c.code w.values args) 0) (allocated w result)
    slot_within (AtInstr (Instr.Call result must_tail ty (Callee.Allocator Allocator.Free) args)) = tt
    slot_within (AtInstr (Instr.Call result must_tail ty (Callee.Allocator Allocator.ZdlPv) args)) = tt
    slot_within (AtInstr (Instr.Call result must_tail ty (Callee.Allocator Allocator.ZdlPvm) args)) = tt
    slot_within (AtInstr (Instr.Call result must_tail ty (Callee.Intrinsic j) args)) =
        within_by (Instr.Call result must_tail ty (Callee.Intrinsic j) args) tt
    slot_within (AtInstr (Instr.Call result must_tail ty (Callee.Named n) args)) =
        within_by (Instr.Call result must_tail ty (Callee.Named n) args) tt
    slot_within (AtInstr (Instr.Call result must_tail ty (Callee.Local v) args)) =
        within_by (Instr.Call result must_tail ty (Callee.Local v) args) tt
    slot_within (AtInstr (Instr.Binary r op flags ty a b)) = within_by (Instr.Binary r op flags ty a b) tt
    slot_within (AtInstr (Instr.Icmp r pred ty a b)) = within_by (Instr.Icmp r pred ty a b) tt
    slot_within (AtInstr (Instr.Select r y a b)) = within_by (Instr.Select r y a b) tt
    slot_within (AtInstr (Instr.Cast r op nneg a to)) = within_by (Instr.Cast r op nneg a to) tt
    slot_within (AtInstr (Instr.Alloca r ty align)) = within_by (Instr.Alloca r ty align) tt
    slot_within (AtInstr (Instr.Load r ty p align)) = within_by (Instr.Load r ty p align) tt
    slot_within (AtInstr (Instr.Store a p align)) = within_by (Instr.Store a p align) tt
    slot_within (AtInstr (Instr.Gep r inbounds ty p indices)) = within_by (Instr.Gep r inbounds ty p indices) tt

  -- a call that gives a frame
  abbrev FineIf : Option (Result State Cause) → Type 0
  FineIf None = Unit {0}
  FineIf (Some r) = Fine r

  or_fine : (o : Option (Result State Cause)) (r : Result State Cause) → FineIf o → Fine r → Fine (unwrap_or o r)
  or_fine None r h k = k
  or_fine (Some q) r h k = h

  enter_given_fine : (s : State) (result : Option ℕ) (vs : List Value) (o : Option ℕ) → HaveSlots s
      → FineIf (enter_given g s result vs o)
  enter_given_fine s result vs None h = tt
  enter_given_fine s result vs (Some func) h = (tt, h)

  given_fine : (s : State) (here : Fetched) → HaveSlots s → FineIf (given_call g s here)
  given_fine s (AtInstr (Instr.Call result must_tail ty (Callee.Named n) args)) h =
      enter_given_fine s result (arg_values g.given.code s.top.values args) (given_ramp g.given.code n) h
  given_fine s (AtInstr (Instr.Call result must_tail ty (Callee.Allocator a) args)) h = tt
  given_fine s (AtInstr (Instr.Call result must_tail ty (Callee.Intrinsic j) args)) h = tt
  given_fine s (AtInstr (Instr.Call result must_tail ty (Callee.Local v) args)) h = tt
  given_fine s _ h = tt

  undefined_fine : (s : State) (r : Result State Cause) → HaveSlots s → Fine r → HaveSlots (or_undefined g.given s r)
  undefined_fine s (Err cause) h k = h
  undefined_fine s (Ok u) h k = k

  next_fine : (s : State) (here : Fetched) → HaveSlots s → Fine (framed_next g s here)
  next_fine s here h =
      or_fine (given_call g s here) (framed_act g s (action_of (framed_context g s) (work_of s) here))
      (given_fine s here h)
      (act_fine s (action_of (framed_context g s) (work_of s) here)
      (memory_wider (framed_context g s) (work_of s) here) (slot_within (framed_context g s) (work_of s) here) h)

  advance_fine : (s : State) (outcome : Outcome) → HaveSlots s → HaveSlots (framed_advance g s outcome)
  advance_fine s Outcome.Running h =
      undefined_fine s (framed_next g s (fetch (function_of g.given s) s.top.block s.top.at)) h
      (next_fine s (fetch (function_of g.given s) s.top.block s.top.at) h)
  advance_fine s (Outcome.Returned v) h = h
  advance_fine s (Outcome.Undefined cause place) h = h

  pub slots_lead_on : (s : State) → HaveSlots s → HaveSlots (framed_step g s)
  slots_lead_on s h = advance_fine s s.outcome h

  pub slots_lead_in_runs : (entry : ℕ) (args : List Word) (n : ℕ) → HaveSlots (framed_state_at g entry args n)
  slots_lead_in_runs entry args n = on n (first_state g.given.code entry args) (tt, tt)
    where
      on : (n : ℕ) (s : State) → HaveSlots s → HaveSlots (iterate (framed_step g) n s)
      on zero s h = h
      on (suc n) s h = on n (framed_step g s) (slots_lead_on s h)
