-- A framed step keeps what holds in each state.
use Rattle.std.proofs.Common.{◌≡◌, ℕ, ◌+◌, Bool, true, false, List, [], ◌∷◌, length, refl, sym, ap, subst}
use Rattle.std.specs.List.{list_all}
use Rattle.std.specs.Prelude.{ℤ, Some, None, Ok, Err, Option, Result, is_none, not, option_map, slice_get, slice_set, unwrap_or, if◌then◌else◌, ◌&&◌, ◌==◌}
use Rattle.ir_laws.specs.run_memory.Memory.{disown, own}
use Rattle.ir_laws.specs.run_memory.declared.block.Kind.{Kind}
use Rattle.ir_laws.specs.run_memory.declared.block.MemoryBlock.{MemoryBlock}
use Rattle.ir_laws.specs.run_memory.declared.pointer.Pointer.{Pointer}
use Rattle.ir_laws.specs.run_memory.declared.pointer.Value.{Value}
use Rattle.ir_laws.specs.ir_base.declared.cause.Cause.{Cause}
use Rattle.ir_laws.specs.ir_base.declared.outcome.Outcome.{Outcome}
use Rattle.ir_laws.specs.ir_base.declared.outcome.Word.{Word}
use Rattle.ir_laws.specs.run_source.Source.{after_end, begin, begin_at, begun, branch_leaving, called, change_own, deallocate, destroy, done_at, end_of, enter, enter_block, finish, first_state, go_to, if_let_go, is_live_at, let_go, left_windows, may_be_freed, may_leave, pop, push, release, resume, resumed, return, returned, save, save_for, sleeper_at, suspend}
use Rattle.ir_laws.specs.run_source.State.{frame_address_of, function_of, gives, instance_at, next, or_undefined, own_frame, own_instance, point_of, settled, with_instance, with_left, with_memory, with_slots, with_status, work_of}
use Rattle.ir_laws.specs.run_source.declared.state.Activation.{Activation}
use Rattle.ir_laws.specs.run_source.declared.state.Instance.{Instance}
use Rattle.ir_laws.specs.run_source.declared.state.Mode.{Mode}
use Rattle.ir_laws.specs.run_source.declared.state.State.{State}
use Rattle.ir_laws.specs.run_source.declared.state.Status.{Status}
use Rattle.run_states.proofs.sound_states.Acts.{Good, after_sound, begin_at_sound, begin_sound, begun_sound, deallocate_sound, destroy_sound, done_sound, enter_sound, entered_sound, entry_length, finish_sound, free_sound, gives_sound, go_sound, next_sound, on_good, on_result, on_test, resume_sound, return_sound, save_sound, suspend_sound}
use Rattle.run_states.proofs.sound_states.Fits.{Fits, calls_at, fits, result_named, suspend_there}
use Rattle.run_states.proofs.sound_states.Kept.{IsGrown, activation_grown, below_grown, grown_set, instance_sound, memory_sound, moved_on, settled_sound, slots_sound, with_outcome}
use Rattle.run_states.proofs.sound_states.Steps.{first_sound}
use Rattle.ir_laws.specs.facts.expanded.Tokens.{IsNamedResult}
use Rattle.ir_laws.specs.facts.sound_states.Named.{AreLocalsNamed}
use Rattle.run_states.specs.sound_states.Sound.{IsSound, IsSuspendAt, KeepsSound}
use Rattle.frame_layout.specs.declared.layout.Layout.{Layout}
use Rattle.run_states.proofs.branches.Performs.{asleep}
use Rattle.run_framed.specs.Framed.{FramedGiven, alloca_from, are_finished_at, at_point, begin_given_at, begin_in_block, begin_in_frame, continue_framed, disown_given, enter_after, enter_given, frame_around, framed_act, framed_advance, framed_begin, framed_context, framed_coro, framed_finish, framed_given, framed_next, framed_promise, framed_slot, framed_step, freed_address, given_call, given_ramp, has_room, has_size, is_stack_block, last_value, reentry_values, with_mode}
use Rattle.ir_laws.specs.ir_model.Names.{function_at, position_of}
use Rattle.ir_laws.specs.ir_model.declared.instr.Instr.{Instr}
use Rattle.ir_laws.specs.ir_model.declared.module.Function.{Function}
use Rattle.ir_laws.specs.ir_model.declared.module.Module.{Module}
use Rattle.ir_laws.specs.ir_model.declared.operand.Arg.{Arg}
use Rattle.ir_laws.specs.ir_model.declared.operand.Callee.{Callee}
use Rattle.ir_laws.specs.ir_model.declared.operand.Intrinsic.{Intrinsic}
use Rattle.ir_laws.specs.ir_model.declared.operand.Operand.{Operand}
use Rattle.ir_laws.specs.ir_paths.Windows.{destroy_label, label_at, operand_at, resume_label, suspend_of}
use Rattle.ir_laws.specs.ir_paths.declared.point.Point.{Point}
use Rattle.ir_laws.specs.ir_paths.declared.point.Window.{Window}
use Rattle.ir_laws.specs.run_step.Results.{and_then, found, ok_if}
use Rattle.ir_laws.specs.run_step.Step.{Action, AtInstr, Coro, Deallocate, Done, Enter, Fetched, GoTo, NewSlot, Return, Stuck, action_of, block_of, deallocated, fetch, outcome_of}
use Rattle.ir_laws.specs.run_step.Values.{Env, arg_values, nth}
use Rattle.ir_laws.specs.run_step.declared.world.Slot.{Slot}
use Rattle.ir_laws.specs.run_source_tables.Given.{has_final, is_final}
use Rattle.run_states.proofs.moved_states.Ending.{below_stays, top_stays}
use Rattle.run_states.proofs.moved_states.Frames.{reentry_length}
use Rattle.run_states.specs.moved_states.Moving.{Moves, Moving}
use Rattle.run_states.specs.moved_states.Near.{EnterAll, Enters, EntersBy, HoldsIn, IsEntering}
use Rattle.ir_laws.specs.run_laws.changed.Changed.{result_at}

module _ (mv : Moving) (m : Module) (layouts : List Layout) (answers : List ℤ) (names : AreLocalsNamed m) (moves : (func : ℕ) → Moves mv (function_at m func)) where
  abbrev g : FramedGiven
  g = framed_given m layouts answers

  -- ---- sound states

  module _ (s : State) (h : IsSound m s) where
    on_sound : (from label : ℕ) → is_none s.top.instance ≡ false → s.top.result ≡ None → (o : Option Point) → IsSound m (enter_after g s from label o)
    on_sound from label resumed returns (Some p) = record { top = record { values = h.top.values; instance = h.top.instance; mode = tt }; below = h.below; instances = h.instances }
    on_sound from label resumed returns None =
        entered_sound g.given (at_point (with_mode s Mode.Resumed) (record { block = from; at = 0 })) label
        (record { top = record { values = h.top.values; instance = h.top.instance; mode = (resumed, returns) }; below = h.below; instances = h.instances })

  slot_sound : (s : State) → IsSound m s → (slot : Slot) (mode : Mode) → EntersBy mv m s.top.func s.top.instance s.top.result mode → IsSound m (framed_slot g s slot mode)
  slot_sound s h slot (Mode.Entering from label) e = on_sound (with_slots s (slot ∷ s.top.slots)) (slots_sound m s (slot ∷ s.top.slots) h) from label e.resumed e.returns (alloca_from (function_of g.given s) s.top.at)
  slot_sound s h slot Mode.Plain e = slots_sound m s (slot ∷ s.top.slots) h
  slot_sound s h slot Mode.Ramp e = slots_sound m s (slot ∷ s.top.slots) h
  slot_sound s h slot Mode.Resumed e = slots_sound m s (slot ∷ s.top.slots) h
  slot_sound s h slot (Mode.GivenRamp v) e = slots_sound m s (slot ∷ s.top.slots) h

  -- to go on behind a suspend does
  continue_sound : KeepsSound m (continue_framed g)
  continue_sound s i x suspend values label h got status =
      let run : Instance = record x { status = Status.Running } in
      let new : List Instance = slice_set s.instances i run in
      let grown : IsGrown s.instances new = grown_set s.instances i x run got refl in
      let f : Function = function_at m x.coroutine in
      on_sound (push (with_status s i x Status.Running) (resumed i x suspend (reentry_values f (frame_address_of x))))
      (record {
        top = record {
          values = reentry_length f (frame_address_of x);
          instance = grown i x.coroutine (ap (option_map (λ (y : Instance). y.coroutine)) got);
          mode = (refl, refl);
        };
        below = (tt, activation_grown m s.instances new (record s.top { at = s.top.at + 1 }) grown (moved_on m s.instances s.top s.top.block (s.top.at + 1) s.top.values s.top.slots s.top.has_left refl h.top), below_grown m s.instances new s.top.result s.below grown h.below);
        instances = (instance_sound m s i x run got refl tt h).instances;
      })
      suspend.block label refl refl (alloca_from f 0)

  -- a call that gives its ramp a frame
  given_sound : (s : State) → IsSound m s → (func : ℕ) (args : List Value) (result : Option ℕ) (v : Value) → IsNamedResult (length s.top.values) result → IsSound m (push s (called m func args result (Mode.GivenRamp v)))
  given_sound s h func args result v named = record {
    top = record { values = entry_length (function_at m func) args; instance = tt; mode = tt };
    below = (named, moved_on m s.instances s.top s.top.block (s.top.at + 1) s.top.values s.top.slots s.top.has_left refl h.top, h.below);
    instances = h.instances;
  }

  begin_given_sound : (s : State) → IsSound m s → (result : Option ℕ) (v w : Value) → Good g.given (and_then (begin_given_at g s v) (λ (u : State). Ok (gives u result w)))
  begin_given_sound s h result (Value.Ptr (Pointer.At b o)) w =
      on_good g.given (begin_given_at g s (Value.Ptr (Pointer.At b o))) (λ u. Ok (gives u result w))
      (on (has_room g o.bits (own_frame g.given s).size (frame_around g s.instances b o.bits)))
      (λ u hu. gives_sound g.given u result w hu)
    where
      on : (t : Bool) → Good g.given (if t then begin_in_frame g s b o else begin_in_block g s b o)
      on true = on_test g.given (is_live_at s.world.memory b) Cause.Begin (begun g.given s b o.bits) (begun_sound g.given s b o.bits h)
      on false =
          on_good g.given (ok_if ((o.bits == 0) && has_size s.world.memory b (own_frame g.given s).size) Cause.Begin s) (λ t. begin_at g.given t (Value.Ptr (Pointer.At b o)) Kind.Stack)
          (on_test g.given ((o.bits == 0) && has_size s.world.memory b (own_frame g.given s).size) Cause.Begin s h)
          (λ t ht. begin_at_sound g.given t ht (Value.Ptr (Pointer.At b o)) Kind.Stack)
  begin_given_sound s h result (Value.Ptr Pointer.Null) w = tt
  begin_given_sound s h result (Value.Ptr (Pointer.Func f)) w = tt
  begin_given_sound s h result Value.Poison w = tt
  begin_given_sound s h result (Value.Int x) w = tt

  framed_begin_sound : (s : State) → IsSound m s → (result : Option ℕ) (mem : Value) (mode : Mode) → Good g.given (framed_begin g s result mem mode)
  framed_begin_sound s h result mem (Mode.GivenRamp v) =
      on_good g.given (ok_if (is_none s.top.instance && are_finished_at s.instances v) Cause.Begin s) (λ t. and_then (begin_given_at g t v) (λ u. Ok (gives u result v)))
      (on_test g.given (is_none s.top.instance && are_finished_at s.instances v) Cause.Begin s h)
      (λ t ht. begin_given_sound t ht result v v)
  framed_begin_sound s h result mem Mode.Plain = begin_sound g.given s h result mem
  framed_begin_sound s h result mem Mode.Ramp = begin_sound g.given s h result mem
  framed_begin_sound s h result mem Mode.Resumed = begin_sound g.given s h result mem
  framed_begin_sound s h result mem (Mode.Entering from label) = begin_sound g.given s h result mem

  disown_sound : (s : State) → IsSound m s → (o : Option (ℕ × Instance)) → IsSound m (disown_given s o)
  disown_sound s h None = h
  disown_sound s h (Some (i, x)) = on (is_stack_block s.world.memory x.block && (x.start == 0))
    where
      on : (b : Bool) → IsSound m (if b then with_memory s (disown s.world.memory x.block) else s)
      on true = memory_sound m s (disown s.world.memory x.block) h
      on false = h

  framed_end_sound : (s : State) → IsSound m s → (result : Option ℕ) → Good g.given (end_of s framed_finish result)
  framed_end_sound s h result = on s.top.has_left
    where
      on : (b : Bool) → Good g.given (after_end (if b then s else framed_finish s) result s.top.mode)
      on true = after_sound g.given s h result s.top.mode
      on false = after_sound g.given (framed_finish s) (disown_sound (finish s) (finish_sound g.given s h) (own_instance s)) result s.top.mode

  -- ---- activations that enter blocks

  abbrev EntersIn : State → Type 0
  EntersIn s = Enters mv m s.top × EnterAll mv m s.below

  abbrev EntersThen : Result State Cause → Type 0
  EntersThen (Err cause) = Unit {0}
  EntersThen (Ok t) = EntersIn t

  found_enters : {A : Type 0} (cause : Cause) (o : Option A) (next : A → Result State Cause) → ((a : A) → o ≡ Some a → EntersThen (next a)) → EntersThen (and_then (found cause o) next)
  found_enters cause None next h = tt
  found_enters cause (Some a) next h = h a refl

  result_enters : {A : Type 0} (o : Result A Cause) (next : A → Result State Cause) → ((a : A) → o ≡ Ok a → EntersThen (next a)) → EntersThen (and_then o next)
  result_enters (Err cause) next h = tt
  result_enters (Ok a) next h = h a refl

  test_enters : (b : Bool) (cause : Cause) (t : State) → EntersIn t → EntersThen (ok_if b cause t)
  test_enters true cause t h = h
  test_enters false cause t h = tt

  on_enters : (o : Result State Cause) (next : State → Result State Cause) → EntersThen o → ((t : State) → EntersIn t → EntersThen (next t)) → EntersThen (and_then o next)
  on_enters (Err cause) next h then_so = tt
  on_enters (Ok t) next h then_so = then_so t h

  leave_enters : (s : State) → EntersIn s → (label : ℕ) (ws : List Window) → EntersThen (branch_leaving g.given s label ws)
  leave_enters s e label [] = e
  leave_enters s e label (w ∷ ws) =
      found_enters Cause.State (own_instance s) (λ y. ok_if (list_all (may_leave (length s.below) y.1) (w ∷ ws)) Cause.State (enter_block g.given (with_left (with_status s y.0 y.1 Status.Running) false) label))
      (λ y d. test_enters (list_all (may_leave (length s.below) y.1) (w ∷ ws)) Cause.State (enter_block g.given (with_left (with_status s y.0 y.1 Status.Running) false) label) e)

  enter_enters : (s : State) → EntersIn s → (func : ℕ) (args : List Value) (result : Option ℕ) → EntersIn (enter g.given s func args result)
  enter_enters s e func args result = on (function_at m func).coroutine
    where
      on : (b : Bool) → EntersIn (push s (called m func args result (if b then Mode.Ramp else Mode.Plain)))
      on true = (tt, e)
      on false = (tt, e)

  pop_enters : (s : State) → EntersIn s → (v : Option Value) (below : List Activation) → EnterAll mv m below → EntersThen (pop s v below)
  pop_enters s e v [] all = result_enters (outcome_of v) (λ outcome. Ok (record s { outcome = outcome })) (λ outcome d. e)
  pop_enters s e v (a ∷ below) all = all

  return_enters : (s : State) → EntersIn s → (v : Option Value) → EntersThen (return s v)
  return_enters s e v = pop_enters (returned s) e v s.below e.1

  save_for_enters : (s : State) → EntersIn s → (save suspend : Point) → EntersThen (save_for s save suspend)
  save_for_enters s e save suspend =
      found_enters Cause.State (own_instance s) (λ y. ok_if (not y.1.freed) Cause.State (with_left (with_instance s y.0 (record y.1 { status = Status.Suspended suspend s.top.values; last_save = Some (record { depth = length s.below; save = save }) })) true))
      (λ y d. test_enters (not y.1.freed) Cause.State (with_left (with_instance s y.0 (record y.1 { status = Status.Suspended suspend s.top.values; last_save = Some (record { depth = length s.below; save = save }) })) true) e)

  save_enters : (s : State) → EntersIn s → EntersThen (save g.given s)
  save_enters s e =
      found_enters Cause.State (suspend_of (function_at m s.top.func) (point_of s)) (λ p. and_then (save_for s (point_of s) p) (λ t. Ok (next t)))
      (λ p d. on_enters (save_for s (point_of s) p) (λ t. Ok (next t)) (save_for_enters s e (point_of s) p) (λ t k. k))

  suspend_enters : (s : State) → EntersIn s → (result : Option ℕ) (x : Operand) → EntersThen (suspend s result x)
  suspend_enters s e result Operand.None = on_enters (save_for s (point_of s) (point_of s)) _ (save_for_enters s e (point_of s) (point_of s)) (λ t k. k)
  suspend_enters s e result (Operand.Local n) = e
  suspend_enters s e result (Operand.Global n) = e
  suspend_enters s e result (Operand.Number z) = e
  suspend_enters s e result Operand.True = e
  suspend_enters s e result Operand.False = e
  suspend_enters s e result Operand.Null = e
  suspend_enters s e result Operand.Poison = e

  IsFound : ℕ → ℕ → Type 0
  IsFound func label = position_of (mv.to (function_at m func)) label ≡ mv.spot (function_at m func) (position_of (function_at m func) label)

  after_enters : (s : State) → EnterAll mv m s.below → (from label : ℕ) → IsEntering mv m s.top.func s.top.instance s.top.result label → (o : Option Point) → EntersIn (enter_after g s from label o)
  after_enters s all from label h (Some p) = (h, all)
  after_enters s all from label h None = (tt, all)

  continue_enters : (s : State) → EntersIn s → (i : ℕ) (x : Instance) (p : Point) (values : Env) (n : ℕ) → IsSuspendAt (function_at m x.coroutine) p → EntersIn (continue_framed g s i x p values (label_at n (slice_get (function_at m x.coroutine).blocks p.block)))
  continue_enters s e i x p values n asleep =
      after_enters (push (with_status s i x Status.Running) (resumed i x p (reentry_values (function_at m x.coroutine) (frame_address_of x)))) e p.block (label_at n (slice_get (function_at m x.coroutine).blocks p.block))
      (record { resumed = refl; returns = refl; found = ((moves x.coroutine).behind p n asleep).found }) (alloca_from (function_at m x.coroutine) 0)

  resume_enters : (s : State) → IsSound m s → EntersIn s → (p : Value) → EntersThen (resume g.given (continue_framed g) s p)
  resume_enters s h e p =
      result_enters (sleeper_at s p) (λ y. ok_if (not (is_final (function_at m y.instance.coroutine) y.suspend)) Cause.State (continue_framed g s y.number y.instance y.suspend y.values (resume_label (function_at m y.instance.coroutine) y.suspend)))
      (λ y d. test_enters (not (is_final (function_at m y.instance.coroutine) y.suspend)) Cause.State (continue_framed g s y.number y.instance y.suspend y.values (resume_label (function_at m y.instance.coroutine) y.suspend))
      (continue_enters s e y.number y.instance y.suspend y.values 0 (asleep m s h p y d)))

  destroy_enters : (s : State) → IsSound m s → EntersIn s → (p : Value) → EntersThen (destroy g.given (continue_framed g) s p)
  destroy_enters s h e p =
      result_enters (sleeper_at s p) (λ y. Ok (continue_framed g s y.number y.instance y.suspend y.values (destroy_label (function_at m y.instance.coroutine) y.suspend)))
      (λ y d. continue_enters s e y.number y.instance y.suspend y.values 1 (asleep m s h p y d))

  done_enters : (s : State) → EntersIn s → (result : Option ℕ) (p : Value) → EntersThen (done_at g.given s result p)
  done_enters s e result p =
      result_enters (sleeper_at s p) _ (λ y d. test_enters (has_final (function_at m y.instance.coroutine)) Cause.State _ e)

  slot_enters : (s : State) (slot : Slot) (mode : Mode) → s.top.mode ≡ mode → EntersBy mv m s.top.func s.top.instance s.top.result mode → EnterAll mv m s.below → EntersIn (framed_slot g s slot mode)
  slot_enters s slot (Mode.Entering from label) d h all = after_enters (with_slots s (slot ∷ s.top.slots)) all from label h (alloca_from (function_of g.given s) s.top.at)
  slot_enters s slot Mode.Plain d h all = (subst (EntersBy mv m s.top.func s.top.instance s.top.result) (sym d) h, all)
  slot_enters s slot Mode.Ramp d h all = (subst (EntersBy mv m s.top.func s.top.instance s.top.result) (sym d) h, all)
  slot_enters s slot Mode.Resumed d h all = (subst (EntersBy mv m s.top.func s.top.instance s.top.result) (sym d) h, all)
  slot_enters s slot (Mode.GivenRamp v) d h all = (subst (EntersBy mv m s.top.func s.top.instance s.top.result) (sym d) h, all)

  with_instance_enters : (func : ℕ) (a : Option ℕ) (i : ℕ) (result : Option ℕ) (mode : Mode) → EntersBy mv m func a result mode → EntersBy mv m func (Some i) result mode
  with_instance_enters func a i result (Mode.Entering from label) h = record { resumed = refl; returns = h.returns; found = h.found }
  with_instance_enters func a i result Mode.Plain h = tt
  with_instance_enters func a i result Mode.Ramp h = tt
  with_instance_enters func a i result Mode.Resumed h = tt
  with_instance_enters func a i result (Mode.GivenRamp v) h = tt

  begin_at_enters : (s : State) → EntersIn s → (mem : Value) (kind : Kind) → EntersThen (begin_at g.given s mem kind)
  begin_at_enters s e mem kind =
      result_enters (own s.world.memory mem (own_frame g.given s).size kind) (λ memory. and_then (found Cause.Begin (block_of mem)) (λ b. Ok (begun g.given (with_memory s memory) b 0)))
      (λ memory d. found_enters Cause.Begin (block_of mem) (λ b. Ok (begun g.given (with_memory s memory) b 0))
      (λ b c. (with_instance_enters s.top.func s.top.instance (length s.instances) s.top.result s.top.mode e.0, e.1)))

  begin_given_enters : (s : State) → EntersIn s → (v : Value) → EntersThen (begin_given_at g s v)
  begin_given_enters s e (Value.Ptr (Pointer.At b o)) =
      on (has_room g o.bits (own_frame g.given s).size (frame_around g s.instances b o.bits))
    where
      on : (t : Bool) → EntersThen (if t then begin_in_frame g s b o else begin_in_block g s b o)
      on true =
          test_enters (is_live_at s.world.memory b) Cause.Begin (begun g.given s b o.bits)
          (with_instance_enters s.top.func s.top.instance (length s.instances) s.top.result s.top.mode e.0, e.1)
      on false =
          on_enters (ok_if ((o.bits == 0) && has_size s.world.memory b (own_frame g.given s).size) Cause.Begin s) (λ t. begin_at g.given t (Value.Ptr (Pointer.At b o)) Kind.Stack)
          (test_enters ((o.bits == 0) && has_size s.world.memory b (own_frame g.given s).size) Cause.Begin s e) (λ t k. begin_at_enters t k (Value.Ptr (Pointer.At b o)) Kind.Stack)
  begin_given_enters s e (Value.Ptr Pointer.Null) = tt
  begin_given_enters s e (Value.Ptr (Pointer.Func f)) = tt
  begin_given_enters s e Value.Poison = tt
  begin_given_enters s e (Value.Int x) = tt

  begin_enters : (s : State) → EntersIn s → (result : Option ℕ) (mem : Value) → EntersThen (begin g.given s result mem)
  begin_enters s e result mem =
      on_enters (ok_if (is_none s.top.instance) Cause.Begin s) (λ t. and_then (begin_at g.given t mem Kind.Allocator) (λ u. Ok (gives u result mem)))
      (test_enters (is_none s.top.instance) Cause.Begin s e)
      (λ t k. on_enters (begin_at g.given t mem Kind.Allocator) (λ u. Ok (gives u result mem)) (begin_at_enters t k mem Kind.Allocator) (λ u l. l))

  framed_begin_enters : (s : State) → EntersIn s → (result : Option ℕ) (mem : Value) (mode : Mode) → EntersThen (framed_begin g s result mem mode)
  framed_begin_enters s e result mem (Mode.GivenRamp v) =
      on_enters (ok_if (is_none s.top.instance && are_finished_at s.instances v) Cause.Begin s) (λ t. and_then (begin_given_at g t v) (λ u. Ok (gives u result v)))
      (test_enters (is_none s.top.instance && are_finished_at s.instances v) Cause.Begin s e)
      (λ t k. on_enters (begin_given_at g t v) (λ u. Ok (gives u result v)) (begin_given_enters t k v) (λ u l. l))
  framed_begin_enters s e result mem Mode.Plain = begin_enters s e result mem
  framed_begin_enters s e result mem Mode.Ramp = begin_enters s e result mem
  framed_begin_enters s e result mem Mode.Resumed = begin_enters s e result mem
  framed_begin_enters s e result mem (Mode.Entering from label) = begin_enters s e result mem

  end_enters : (s : State) → EntersIn s → (result : Option ℕ) → EntersThen (end_of s framed_finish result)
  end_enters s e result = on s.top.has_left
    where
      stays : EntersIn (framed_finish s)
      stays = (subst (Enters mv m) (sym (top_stays mv m s)) e.0, subst (EnterAll mv m) (sym (below_stays mv m s)) e.1)

      by : (t : State) → EntersIn t → (mode : Mode) → EntersThen (after_end t result mode)
      by t k Mode.Resumed = return_enters t k None
      by t k Mode.Plain = k
      by t k Mode.Ramp = k
      by t k (Mode.GivenRamp v) = k
      by t k (Mode.Entering from label) = k

      on : (b : Bool) → EntersThen (after_end (if b then s else framed_finish s) result s.top.mode)
      on true = by s e s.top.mode
      on false = by (framed_finish s) stays s.top.mode

  free_enters : (s : State) → EntersIn s → (result : Option ℕ) (v : Value) → EntersIn (gives (release s) result v)
  free_enters s e result v = on (own_instance s)
    where
      on : (o : Option (ℕ × Instance)) → EntersIn (gives (change_own s (λ x. record x { released = true }) o) result v)
      on None = e
      on (Some (i, x)) = e

  deallocate_enters : (s : State) → EntersIn s → (p : Value) → EntersThen (deallocate s p)
  deallocate_enters s e p = on (instance_at s.instances p)
    where
      freed : (t : State) → EntersIn t → EntersThen (and_then (deallocated t.world.memory p) (λ (memory : List MemoryBlock). Ok (next (with_memory t memory))))
      freed t k = result_enters (deallocated t.world.memory p) (λ memory. Ok (next (with_memory t memory))) (λ memory d. k)

      by : (i : ℕ) (x : Instance) (b : Bool) → EntersIn (if b then let_go s i x else s)
      by i x true = e
      by i x false = e

      on : (o : Option (ℕ × Instance)) → EntersThen (and_then (deallocated (if_let_go s o).world.memory p) (λ (memory : List MemoryBlock). Ok (next (with_memory (if_let_go s o) memory))))
      on None = freed s e
      on (Some (i, x)) = freed (if may_be_freed x then let_go s i x else s) (by i x (may_be_freed x))

  -- ---- a step

  abbrev HoldsThen : Result State Cause → Type 0
  HoldsThen (Err cause) = Unit {0}
  HoldsThen (Ok t) = HoldsIn mv m t

  both : (r : Result State Cause) → Good g.given r → EntersThen r → HoldsThen r
  both (Err cause) h e = tt
  both (Ok t) h e = record { sound = h; top = e.0; below = e.1 }

  module _ (s : State) (holds : HoldsIn mv m s) where
    abbrev here : Fetched
    here = fetch (function_at m s.top.func) s.top.block s.top.at

    h : IsSound m s
    h = holds.sound

    e : EntersIn s
    e = (holds.top, holds.below)

    named : IsNamedResult (length s.top.values) (result_at here)
    named = subst (λ (n : ℕ). IsNamedResult n (result_at here)) (sym holds.sound.top.values) (result_named (function_at m s.top.func) (names s.top.func).results s.top.block s.top.at)

    gave : (result : Option ℕ) (v : Value) → HoldsIn mv m (gives s result v)
    gave result v = record { sound = gives_sound g.given s result v h; top = holds.top; below = holds.below }

    coro_holds : (j : Intrinsic) (args : List Arg) (vs : List Value) (result : Option ℕ) → calls_at j here ≡ true → HoldsThen (framed_coro g s j args vs result)
    coro_holds Intrinsic.CoroBegin args vs result is = both (framed_coro g s Intrinsic.CoroBegin args vs result) (framed_begin_sound s h result (nth vs 1) s.top.mode) (framed_begin_enters s e result (nth vs 1) s.top.mode)
    coro_holds Intrinsic.CoroFrame args vs result is = gave result _
    coro_holds Intrinsic.CoroSave args vs result is = both (framed_coro g s Intrinsic.CoroSave args vs result) (save_sound g.given s h) (save_enters s e)
    coro_holds Intrinsic.CoroSuspend args vs result is = both (framed_coro g s Intrinsic.CoroSuspend args vs result) (suspend_sound g.given s h (suspend_there (function_at m s.top.func) (point_of s) is) result (operand_at args 0)) (suspend_enters s e result (operand_at args 0))
    coro_holds Intrinsic.CoroResume args vs result is = both (framed_coro g s Intrinsic.CoroResume args vs result) (resume_sound g.given (continue_framed g) continue_sound s h (nth vs 0)) (resume_enters s h e (nth vs 0))
    coro_holds Intrinsic.CoroDestroy args vs result is = both (framed_coro g s Intrinsic.CoroDestroy args vs result) (destroy_sound g.given (continue_framed g) continue_sound s h (nth vs 0)) (destroy_enters s h e (nth vs 0))
    coro_holds Intrinsic.CoroDone args vs result is = both (framed_coro g s Intrinsic.CoroDone args vs result) (done_sound g.given s h result (nth vs 0)) (done_enters s e result (nth vs 0))
    coro_holds Intrinsic.CoroEnd args vs result is = both (framed_coro g s Intrinsic.CoroEnd args vs result) (framed_end_sound s h result) (end_enters s e result)
    coro_holds Intrinsic.CoroFree args vs result is =
        let freed = free_enters s e result (freed_address s.world.memory (own_instance s)) in
        record { sound = free_sound g.given s h result (freed_address s.world.memory (own_instance s)); top = freed.0; below = freed.1 }
    coro_holds Intrinsic.CoroPromise args vs result is =
        both (framed_coro g s Intrinsic.CoroPromise args vs result)
        (on_result g.given (framed_promise g s (nth vs 0) (operand_at args 2)) (λ v. Ok (gives s result v)) (λ v d. gives_sound g.given s result v h))
        (result_enters (framed_promise g s (nth vs 0) (operand_at args 2)) (λ v. Ok (gives s result v)) (λ v d. e))
    coro_holds Intrinsic.CoroSizeI32 args vs result is = gave result _
    coro_holds Intrinsic.CoroSizeI64 args vs result is = gave result _
    coro_holds Intrinsic.CoroAlignI32 args vs result is = gave result _
    coro_holds Intrinsic.CoroAlignI64 args vs result is = gave result _
    coro_holds Intrinsic.CoroAlloc args vs result is = gave result _
    coro_holds Intrinsic.CoroId args vs result is = record { sound = next_sound g.given s h; top = holds.top; below = holds.below }
    coro_holds Intrinsic.LifetimeStart args vs result is = record { sound = next_sound g.given s h; top = holds.top; below = holds.below }
    coro_holds Intrinsic.LifetimeEnd args vs result is = record { sound = next_sound g.given s h; top = holds.top; below = holds.below }
    coro_holds Intrinsic.MemcpyI64 args vs result is = record { sound = next_sound g.given s h; top = holds.top; below = holds.below }
    coro_holds Intrinsic.MemcpyI32 args vs result is = record { sound = next_sound g.given s h; top = holds.top; below = holds.below }

    act_holds : (a : Action) → Fits s.top.values here a → HoldsThen (framed_act g s a)
    act_holds (Done w) fit = record { sound = settled_sound m s w fit h; top = holds.top; below = holds.below }
    act_holds (NewSlot w slot) fit =
        let entered = slot_enters (settled s w) slot s.top.mode refl holds.top holds.below in
        record { sound = slot_sound (settled s w) (settled_sound m s w fit h) slot s.top.mode holds.top; top = entered.0; below = entered.1 }
    act_holds (Enter func args result must_tail) fit =
        let entered = enter_enters s e func args result in
        record { sound = enter_sound g.given s h func args result (subst (IsNamedResult (length s.top.values)) (sym fit) named); top = entered.0; below = entered.1 }
    act_holds (Coro j args result) fit = coro_holds j args (arg_values m s.top.values args) result fit.0
    act_holds (Deallocate p) fit = both (deallocate s p) (deallocate_sound g.given s h p) (deallocate_enters s e p)
    act_holds (GoTo label) fit = both (go_to g.given s label) (go_sound g.given s h label) (leave_enters s e label (left_windows g.given s label))
    act_holds (Return v) fit = both (return s v) (return_sound g.given s h v) (return_enters s e v)
    act_holds (Stuck cause) fit = tt

    or_holds : (o : Option (Result State Cause)) → ((r : Result State Cause) → o ≡ Some r → HoldsThen r) → (q : Result State Cause) → HoldsThen q → HoldsThen (unwrap_or o q)
    or_holds None h q k = k
    or_holds (Some r) h q k = h r refl

    given_holds : (x : Fetched) → IsNamedResult (length s.top.values) (result_at x) → (r : Result State Cause) → given_call g s x ≡ Some r → HoldsThen r
    given_holds (AtInstr (Instr.Call result must_tail ty (Callee.Named n) args)) name r d = on (given_ramp m n) d
      where
        on : (o : Option ℕ) → enter_given g s result (arg_values m s.top.values args) o ≡ Some r → HoldsThen r
        on None c = absurd (cc)
        on (Some func) c =
            let same : Ok (push s (called m func (arg_values m s.top.values args) result (Mode.GivenRamp (last_value (arg_values m s.top.values args))))) ≡ r = cc in
            subst HoldsThen same (record { sound = given_sound s h func (arg_values m s.top.values args) result (last_value (arg_values m s.top.values args)) name; top = tt; below = e })
    given_holds _ name r d = absurd (cc)

    after : (o : Result State Cause) → HoldsThen o → HoldsIn mv m (or_undefined g.given s o)
    after (Err cause) good = record { sound = with_outcome m s _ h; top = holds.top; below = holds.below }
    after (Ok t) good = good

    next_holds : HoldsThen (framed_next g s here)
    next_holds =
        or_holds (given_call g s here) (given_holds here named) (framed_act g s (action_of (framed_context g s) (work_of s) here))
        (act_holds (action_of (framed_context g s) (work_of s) here) (fits (framed_context g s) (work_of s) here))

    advance_holds : (o : Outcome) → HoldsIn mv m (framed_advance g s o)
    advance_holds Outcome.Running = after (framed_next g s here) next_holds
    advance_holds (Outcome.Returned v) = holds
    advance_holds (Outcome.Undefined cause place) = holds

    -- a step keeps what holds
    pub step_holds : HoldsIn mv m (framed_step g s)
    step_holds = advance_holds s.outcome

  -- and it holds at the start
  pub first_holds : (entry : ℕ) (args : List Word) → HoldsIn mv m (first_state m entry args)
  first_holds entry args = record { sound = first_sound m entry args; top = tt; below = tt }
