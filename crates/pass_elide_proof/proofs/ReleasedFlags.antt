-- A step that is no coro.free releases no instance, and instances that were freed stay freed.
use Rattle.std.proofs.Common.{◌≡◌, ◌≢◌, ◌⊎◌, inl, inr, ⊎_elim, ◌+◌, ℕ, Bool, true, false, not, List, [], ◌∷◌, ◌++◌, length, Result, Ok, Err, refl, sym, ap, ◌∙◌, if◌then◌else◌, ◌&&◌, ◌==◌}
use Rattle.std.specs.List.{list_all}
use Rattle.std.specs.Prelude.{None, Option, Some, is_none, negsuc, slice_get, slice_set}
use Rattle.pass_elide_proof.proofs.Begins.{no_both}
use Rattle.pass_elide_proof.proofs.Begun.{end_or_before}
use Rattle.pass_elide_proof.proofs.Changing.{WasSet, was_set}
use Rattle.pass_elide_proof.proofs.LastFound.{found_there}
use Rattle.pass_elide_proof.proofs.Saves.{own_number}
use Rattle.pass_proofs.proofs.ir_laws.facts.Lists.{get_last}
use Rattle.pass_proofs.specs.ir_base.declared.cause.Cause.{Cause}
use Rattle.pass_proofs.specs.ir_base.declared.outcome.Outcome.{Outcome}
use Rattle.pass_proofs.specs.ir_model.Names.{function_at}
use Rattle.pass_proofs.specs.ir_model.declared.operand.Arg.{Arg}
use Rattle.pass_proofs.specs.ir_model.declared.operand.Intrinsic.{Intrinsic}
use Rattle.pass_proofs.specs.ir_model.declared.operand.Operand.{Operand}
use Rattle.pass_proofs.specs.ir_paths.Windows.{destroy_label, operand_at, resume_label, suspend_of}
use Rattle.pass_proofs.specs.ir_paths.declared.point.Point.{Point}
use Rattle.pass_proofs.specs.ir_paths.declared.point.Window.{Window}
use Rattle.pass_proofs.specs.run_framed.Framed.{FramedGiven, alloca_from, are_finished_at, begin_given, begin_given_at, begin_in_block, begin_in_frame, continue_framed, disown_given, enter_after, frame_around, framed_act, framed_begin, framed_coro, framed_finish, framed_promise, framed_slot, has_room, has_size, is_stack_block, reentry_values}
use Rattle.pass_proofs.specs.run_memory.Memory.{disown, own}
use Rattle.pass_proofs.specs.run_memory.declared.block.Kind.{Kind}
use Rattle.pass_proofs.specs.run_memory.declared.block.MemoryBlock.{MemoryBlock}
use Rattle.pass_proofs.specs.run_memory.declared.pointer.Pointer.{Pointer}
use Rattle.pass_proofs.specs.run_memory.declared.pointer.Value.{Value}
use Rattle.pass_proofs.specs.run_source.Source.{Sleeper, after_end, begin, begin_at, begun, branch_leaving, change_own, deallocate, destroy, done_at, end_of, enter_block, if_let_go, left_windows, let_go, may_be_freed, may_leave, new_instance, pop, push, resume, resumed, return, returned, save, save_before, save_for, sleeper_at, sleeper_of, slots_of, suspend}
use Rattle.pass_proofs.specs.run_source.State.{began_at, frame_address_of, function_of, gives, instance_at, next, own_frame, own_instance, point_of, settled, with_instance, with_left, with_memory, with_slots, with_status}
use Rattle.pass_proofs.specs.run_source.declared.state.Activation.{Activation}
use Rattle.pass_proofs.specs.run_source.declared.state.Instance.{Instance}
use Rattle.pass_proofs.specs.run_source.declared.state.Mode.{Mode}
use Rattle.pass_proofs.specs.run_source.declared.state.State.{State}
use Rattle.pass_proofs.specs.run_source.declared.state.Status.{Status}
use Rattle.pass_proofs.specs.run_source_tables.Given.{has_final, is_final}
use Rattle.pass_proofs.specs.run_step.Results.{and_then, found, ok_if}
use Rattle.pass_proofs.specs.run_step.Step.{Action, Coro, Deallocate, Done, Enter, GoTo, NewSlot, Return, Stuck, block_of, deallocated, outcome_of, without_slots}
use Rattle.pass_proofs.specs.run_step.Values.{arg_values, integer, nth, truth_value}
use Rattle.pass_proofs.specs.run_step.declared.world.Slot.{Slot}

-- ---- instances

-- an instance that is released and isn't freed was so before
pub record WasReleased (xs : List Instance) (i : ℕ) (y : Instance) : Type 0 where
  pub was : Instance
  pub there : slice_get xs i ≡ Some was
  pub coroutine : was.coroutine ≡ y.coroutine
  pub released : was.released ≡ true
  pub freed : was.freed ≡ false

abbrev pub ReleasesNone : List Instance → List Instance → Type 0
ReleasesNone xs ys =
    (i : ℕ) (y : Instance) → slice_get ys i ≡ Some y → y.released ≡ true → y.freed ≡ false → WasReleased xs i y

-- an instance changes that is released no more than it was
pub record IsHeldBack (x new : Instance) : Type 0 where
  pub coroutine : new.coroutine ≡ x.coroutine
  pub released : new.released ≡ true → x.released ≡ true
  pub freed : new.freed ≡ false → x.freed ≡ false

pub none_set : (xs ys : List Instance) (i : ℕ) (x new : Instance) → slice_get ys i ≡ Some x → IsHeldBack x new
    → ReleasesNone xs ys → ReleasesNone xs (slice_set ys i new)
none_set xs ys i x new there k h j y at released freed = by (was_set ys i x new there j y at)
  where
    which : (was : Instance) → slice_get ys j ≡ Some was → ((j ≡ i) × (y ≡ new)) ⊎ ((j ≢ i) × (y ≡ was))
        → WasReleased xs j y
    which was to (inl q) =
        let old = h j x (ap (slice_get ys) q.0 ∙ there)
        (k.released (ap (λ (z : Instance). z.released) (sym q.1) ∙ released))
        (k.freed (ap (λ (z : Instance). z.freed) (sym q.1) ∙ freed)) in
        record {
          was = old.was;
          there = old.there;
          coroutine = old.coroutine ∙ (sym k.coroutine ∙ ap (λ (z : Instance). z.coroutine) (sym q.1));
          released = old.released;
          freed = old.freed;
        }
    which was to (inr q) =
        h j y (to ∙ ap Some (sym q.1)) released freed

    by : WasSet ys i new j y → WasReleased xs j y
    by was = which was.was was.at was.is

-- a new instance isn't released
pub none_more : (xs ys : List Instance) (new : Instance) → new.released ≡ false → ReleasesNone xs ys
    → ReleasesNone xs (ys ++ new ∷ [])
none_more xs ys new calm h j y at released freed =
    ⊎_elim (λ last. absurd (no_both y.released (ap (λ (z : Instance). z.released) last.1 ∙ calm) released))
    (λ old. h j y old released freed) (end_or_before ys new y j at)

module _ (g : FramedGiven) (xs : List Instance) where
  abbrev Calm : State → Type 0
  Calm s = ReleasesNone xs s.instances

  abbrev pub KeepsCalm : Result State Cause → Type 0
  KeepsCalm (Err cause) = Unit {0}
  KeepsCalm (Ok s) = Calm s

  then_keeps : (r : Result State Cause) (q : State → State) → KeepsCalm r → ((s : State) → Calm s → Calm (q s))
      → KeepsCalm (and_then r (λ (s : State). Ok (q s)))
  then_keeps (Err cause) q h on = tt
  then_keeps (Ok s) q h on = on s h

  if_keeps : (t : Bool) (cause : Cause) (s : State) → Calm s → KeepsCalm (ok_if t cause s)
  if_keeps true cause s h = h
  if_keeps false cause s h = tt

  after_calm : (s : State) (from label : ℕ) (o : Option Point) → Calm s → Calm (enter_after g s from label o)
  after_calm s from label (Some p) h = h
  after_calm s from label None h = h

  slot_calm : (s : State) (z : Slot) (mode : Mode) → Calm s → Calm (framed_slot g s z mode)
  slot_calm s z Mode.Plain h = h
  slot_calm s z Mode.Ramp h = h
  slot_calm s z Mode.Resumed h = h
  slot_calm s z (Mode.GivenRamp frame) h = h
  slot_calm s z (Mode.Entering from label) h =
      after_calm (with_slots s (z ∷ s.top.slots)) from label (alloca_from (function_of g.given s) s.top.at) h

  instance_calm : (s : State) (i : ℕ) (x new : Instance) → slice_get s.instances i ≡ Some x → IsHeldBack x new
      → Calm s → Calm (with_instance s i new)
  instance_calm s i x new there k h = none_set xs s.instances i x new there k h

  -- ---- begins

  begun_calm : (s : State) (b start : ℕ) → Calm s → Calm (begun g.given s b start)
  begun_calm s b start h =
      none_set xs (s.instances ++ new_instance s.top.func b start ∷ []) (length s.instances)
      (new_instance s.top.func b start) _
      (get_last s.instances (new_instance s.top.func b start))
      (record { coroutine = refl; released = λ e. e; freed = λ e. e })
      (none_more xs s.instances (new_instance s.top.func b start) refl h)

  begin_at_calm : (s : State) (mem : Value) (kind : Kind) → Calm s → KeepsCalm (begin_at g.given s mem kind)
  begin_at_calm s mem kind h = by (own s.world.memory mem (own_frame g.given s).size kind)
    where
      at_block : (memory : List MemoryBlock) (o : Option ℕ)
          → KeepsCalm (and_then (found Cause.Begin o) (λ (b : ℕ). Ok (begun g.given (with_memory s memory) b 0)))
      at_block memory None = tt
      at_block memory (Some b) = begun_calm (with_memory s memory) b 0 h

      by : (r : Result (List MemoryBlock) Cause) → KeepsCalm (and_then r (λ (memory : List MemoryBlock).
          and_then (found Cause.Begin (block_of mem)) (λ (b : ℕ). Ok (begun g.given (with_memory s memory) b 0))))
      by (Err cause) = tt
      by (Ok memory) = at_block memory (block_of mem)

  begin_calm : (s : State) (result : Option ℕ) (mem : Value) → Calm s → KeepsCalm (begin g.given s result mem)
  begin_calm s result mem h = by (is_none s.top.instance)
    where
      by : (t : Bool) → KeepsCalm (and_then (ok_if t Cause.Begin s) (λ (s : State).
          and_then (begin_at g.given s mem Kind.Allocator) (λ (s : State). Ok (gives s result mem))))
      by true =
          then_keeps (begin_at g.given s mem Kind.Allocator) (λ (z : State). gives z result mem)
          (begin_at_calm s mem Kind.Allocator h) (λ z k. k)
      by false = tt

  given_at_calm : (s : State) (frame : Value) → Calm s → KeepsCalm (begin_given_at g s frame)
  given_at_calm s (Value.Ptr (Pointer.At b o)) h =
      by (has_room g o.bits (own_frame g.given s).size (frame_around g s.instances b o.bits))
    where
      in_block : (t : Bool) → KeepsCalm (and_then (ok_if t Cause.Begin s)
          (λ (z : State). begin_at g.given z (Value.Ptr (Pointer.At b o)) Kind.Stack))
      in_block true = begin_at_calm s (Value.Ptr (Pointer.At b o)) Kind.Stack h
      in_block false = tt

      by : (t : Bool) → KeepsCalm (if t then begin_in_frame g s b o else begin_in_block g s b o)
      by true = if_keeps _ Cause.Begin (begun g.given s b o.bits) (begun_calm s b o.bits h)
      by false = in_block ((o.bits == 0) && has_size s.world.memory b (own_frame g.given s).size)
  given_at_calm s (Value.Ptr Pointer.Null) h = tt
  given_at_calm s (Value.Ptr (Pointer.Func f)) h = tt
  given_at_calm s Value.Poison h = tt
  given_at_calm s (Value.Int n) h = tt

  begin_given_calm : (s : State) (result : Option ℕ) (frame : Value) → Calm s
      → KeepsCalm (begin_given g s result frame)
  begin_given_calm s result frame h = by (is_none s.top.instance && are_finished_at s.instances frame)
    where
      by : (t : Bool) → KeepsCalm (and_then (ok_if t Cause.Begin s) (λ (s : State).
          and_then (begin_given_at g s frame) (λ (s : State). Ok (gives s result frame))))
      by true =
          then_keeps (begin_given_at g s frame) (λ (z : State). gives z result frame) (given_at_calm s frame h)
          (λ z k. k)
      by false = tt

  framed_begin_calm : (s : State) (result : Option ℕ) (mem : Value) (mode : Mode) → Calm s
      → KeepsCalm (framed_begin g s result mem mode)
  framed_begin_calm s result mem (Mode.GivenRamp frame) h = begin_given_calm s result frame h
  framed_begin_calm s result mem Mode.Plain h = begin_calm s result mem h
  framed_begin_calm s result mem Mode.Ramp h = begin_calm s result mem h
  framed_begin_calm s result mem Mode.Resumed h = begin_calm s result mem h
  framed_begin_calm s result mem (Mode.Entering from label) h = begin_calm s result mem h

  -- ---- saves and suspends

  abbrev saved_as : State → Point → Point → Instance → Instance
  saved_as s p q x =
      record x {
        status = Status.Suspended q s.top.values;
        last_save = Some (record { depth = length s.below; save = p });
      }

  save_for_calm : (s : State) (p q : Point) → Calm s → KeepsCalm (save_for s p q)
  save_for_calm s p q h = by (own_instance s) refl
    where
      by : (o : Option (ℕ × Instance)) → own_instance s ≡ o
          → KeepsCalm (and_then (found Cause.State o) (λ (i, x). ok_if (not x.freed) Cause.State
          (with_left (with_instance s i (saved_as s p q x)) true)))
      by None eo = tt
      by (Some (i, x)) eo =
          if_keeps (not x.freed) Cause.State (with_left (with_instance s i (saved_as s p q x)) true)
          (instance_calm s i x (saved_as s p q x) (own_number s i x eo).1
          (record { coroutine = refl; released = λ e. e; freed = λ e. e }) h)

  save_calm : (s : State) → Calm s → KeepsCalm (save g.given s)
  save_calm s h = by (suspend_of (function_of g.given s) (point_of s))
    where
      by : (o : Option Point) → KeepsCalm (and_then (found Cause.State o) (λ (q : Point).
          and_then (save_for s (point_of s) q) (λ (z : State). Ok (next z))))
      by None = tt
      by (Some q) = then_keeps (save_for s (point_of s) q) next (save_for_calm s (point_of s) q h) (λ z k. k)

  before_calm : (s : State) (x : Operand) → Calm s → KeepsCalm (save_before s x)
  before_calm s Operand.None h = save_for_calm s (point_of s) (point_of s) h
  before_calm s (Operand.Local v) h = h
  before_calm s (Operand.Global name) h = h
  before_calm s (Operand.Number z) h = h
  before_calm s Operand.True h = h
  before_calm s Operand.False h = h
  before_calm s Operand.Null h = h
  before_calm s Operand.Poison h = h

  suspend_calm : (s : State) (result : Option ℕ) (x : Operand) → Calm s → KeepsCalm (suspend s result x)
  suspend_calm s result x h =
      then_keeps (save_before s x) (λ (z : State). gives z result (integer 8 (negsuc 0))) (before_calm s x h)
      (λ z k. k)

  -- ---- returns and ends

  pop_calm : (s : State) (v : Option Value) (below : List Activation) → Calm s → KeepsCalm (pop s v below)
  pop_calm s v [] h = by (outcome_of v)
    where
      by : (r : Result Outcome Cause)
          → KeepsCalm (and_then r (λ (outcome : Outcome). Ok (record s { outcome = outcome })))
      by (Err cause) = tt
      by (Ok outcome) = h
  pop_calm s v (a ∷ below) h = h

  return_calm : (s : State) (v : Option Value) → Calm s → KeepsCalm (return s v)
  return_calm s v h = pop_calm (returned s) v s.below h

  finish_calm : (s : State) → Calm s → Calm (framed_finish s)
  finish_calm s h = by (own_instance s) refl
    where
      by : (o : Option (ℕ × Instance)) → own_instance s ≡ o
          → Calm (disown_given (with_memory (change_own s (λ (x : Instance). record x { status = Status.Finished }) o)
          (without_slots s.world.memory (slots_of o))) o)
      by None eo = h
      by (Some (i, x)) eo = on (is_stack_block (without_slots s.world.memory x.slots) x.block && (x.start == 0))
        where
          set : Calm (with_instance s i (record x { status = Status.Finished }))
          set =
              instance_calm s i x (record x { status = Status.Finished }) (own_number s i x eo).1
              (record { coroutine = refl; released = λ e. e; freed = λ e. e }) h

          on : (t : Bool) → Calm (if t
              then with_memory (with_memory (with_instance s i (record x { status = Status.Finished }))
              (without_slots s.world.memory x.slots)) (disown (without_slots s.world.memory x.slots) x.block)
              else with_memory (with_instance s i (record x { status = Status.Finished }))
              (without_slots s.world.memory x.slots))
          on true = set
          on false = set

  ended_calm : (s : State) (result : Option ℕ) (mode : Mode) → Calm s → KeepsCalm (after_end s result mode)
  ended_calm s result Mode.Resumed h = return_calm s None h
  ended_calm s result Mode.Plain h = h
  ended_calm s result Mode.Ramp h = h
  ended_calm s result (Mode.GivenRamp frame) h = h
  ended_calm s result (Mode.Entering from label) h = h

  end_calm : (s : State) (result : Option ℕ) → Calm s → KeepsCalm (end_of s framed_finish result)
  end_calm s result h =
      ended_calm (if s.top.has_left then s else framed_finish s) result s.top.mode (by s.top.has_left)
    where
      by : (t : Bool) → Calm (if t then s else framed_finish s)
      by true = h
      by false = finish_calm s h

  -- ---- resume, destroy, done, promise

  at_found : (s : State) (p : Value) (i : ℕ) (x : Instance) → instance_at s.instances p ≡ Some (i, x)
      → slice_get s.instances i ≡ Some x
  at_found s (Value.Ptr (Pointer.At b o)) i x is = (found_there (began_at b o.bits) s.instances (i, x) is).0
  at_found s (Value.Ptr Pointer.Null) i x is = absurd (cc)
  at_found s (Value.Ptr (Pointer.Func f)) i x is = absurd (cc)
  at_found s Value.Poison i x is = absurd (cc)
  at_found s (Value.Int n) i x is = absurd (cc)

  record IsAsleep (s : State) (y : Sleeper) : Type 0 where
    there : slice_get s.instances y.number ≡ Some y.instance

  Woken : State → Result Sleeper Cause → Type 0
  Woken s (Err cause) = Unit {0}
  Woken s (Ok y) = IsAsleep s y

  asleep : (s : State) (p : Value) → Woken s (sleeper_at s p)
  unfolding Woken
  asleep s p = by (instance_at s.instances p) refl
    where
      by_status : (i : ℕ) (x : Instance) (status : Status) → slice_get s.instances i ≡ Some x
          → Woken s (sleeper_of i x status)
      by_status i x Status.Running there = tt
      by_status i x Status.Finished there = tt
      by_status i x (Status.Suspended point values) there = record { there = there }

      by : (o : Option (ℕ × Instance)) → instance_at s.instances p ≡ o
          → Woken s (and_then (found Cause.Frame o) (λ (i, x). sleeper_of i x x.status))
      by None eo = tt
      by (Some (i, x)) eo = by_status i x x.status (at_found s p i x eo)

  woken_calm : (s : State) (y : Sleeper) (label : ℕ) → slice_get s.instances y.number ≡ Some y.instance → Calm s
      → Calm (continue_framed g s y.number y.instance y.suspend y.values label)
  woken_calm s y label there h =
      after_calm
      (push (with_status s y.number y.instance Status.Running) (resumed y.number y.instance y.suspend (reentry_values
      (function_at g.given.code y.instance.coroutine) (frame_address_of y.instance))))
      y.suspend.block label (alloca_from (function_at g.given.code y.instance.coroutine) 0)
      (instance_calm s y.number y.instance (record y.instance { status = Status.Running }) there
      (record { coroutine = refl; released = λ e. e; freed = λ e. e }) h)

  resume_calm : (s : State) (p : Value) → Calm s → KeepsCalm (resume g.given (continue_framed g) s p)
  unfolding Woken
  resume_calm s p h = by (sleeper_at s p) (asleep s p)
    where
      by : (r : Result Sleeper Cause) → Woken s r → KeepsCalm (and_then r (λ (y : Sleeper).
          ok_if (not (is_final (function_at g.given.code y.instance.coroutine) y.suspend)) Cause.State
          (continue_framed g s y.number y.instance y.suspend y.values
          (resume_label (function_at g.given.code y.instance.coroutine) y.suspend))))
      by (Err cause) k = tt
      by (Ok y) k =
          if_keeps (not (is_final (function_at g.given.code y.instance.coroutine) y.suspend)) Cause.State _
          (woken_calm s y (resume_label (function_at g.given.code y.instance.coroutine) y.suspend) k.there h)

  destroy_calm : (s : State) (p : Value) → Calm s → KeepsCalm (destroy g.given (continue_framed g) s p)
  unfolding Woken
  destroy_calm s p h = by (sleeper_at s p) (asleep s p)
    where
      by : (r : Result Sleeper Cause) → Woken s r → KeepsCalm (and_then r (λ (y : Sleeper).
          Ok (continue_framed g s y.number y.instance y.suspend y.values
          (destroy_label (function_at g.given.code y.instance.coroutine) y.suspend))))
      by (Err cause) k = tt
      by (Ok y) k = woken_calm s y (destroy_label (function_at g.given.code y.instance.coroutine) y.suspend) k.there h

  done_calm : (s : State) (result : Option ℕ) (p : Value) → Calm s → KeepsCalm (done_at g.given s result p)
  done_calm s result p h = by (sleeper_at s p)
    where
      by : (r : Result Sleeper Cause) → KeepsCalm (and_then r (λ (y : Sleeper).
          ok_if (has_final (function_at g.given.code y.instance.coroutine)) Cause.State
          (gives s result (truth_value (is_final (function_at g.given.code y.instance.coroutine) y.suspend)))))
      by (Err cause) = tt
      by (Ok y) =
          if_keeps (has_final (function_at g.given.code y.instance.coroutine)) Cause.State
          (gives s result (truth_value (is_final (function_at g.given.code y.instance.coroutine) y.suspend))) h

  promise_calm : (s : State) (result : Option ℕ) (r : Result Value Cause) → Calm s
      → KeepsCalm (and_then r (λ (v : Value). Ok (gives s result v)))
  promise_calm s result (Err cause) h = tt
  promise_calm s result (Ok v) h = h

  coro_calm : (s : State) (i : Intrinsic) (args : List Arg) (vs : List Value) (result : Option ℕ)
      → (i ≡ Intrinsic.CoroFree → ⊥) → Calm s → KeepsCalm (framed_coro g s i args vs result)
  coro_calm s Intrinsic.CoroId args vs result ne h = h
  coro_calm s Intrinsic.CoroSizeI32 args vs result ne h = h
  coro_calm s Intrinsic.CoroSizeI64 args vs result ne h = h
  coro_calm s Intrinsic.CoroAlignI32 args vs result ne h = h
  coro_calm s Intrinsic.CoroAlignI64 args vs result ne h = h
  coro_calm s Intrinsic.CoroAlloc args vs result ne h = h
  coro_calm s Intrinsic.CoroBegin args vs result ne h = framed_begin_calm s result (nth vs 1) s.top.mode h
  coro_calm s Intrinsic.CoroFree args vs result ne h = absurd (ne refl)
  coro_calm s Intrinsic.CoroFrame args vs result ne h = h
  coro_calm s Intrinsic.CoroSave args vs result ne h = save_calm s h
  coro_calm s Intrinsic.CoroSuspend args vs result ne h = suspend_calm s result (operand_at args 0) h
  coro_calm s Intrinsic.CoroEnd args vs result ne h = end_calm s result h
  coro_calm s Intrinsic.CoroResume args vs result ne h = resume_calm s (nth vs 0) h
  coro_calm s Intrinsic.CoroDestroy args vs result ne h = destroy_calm s (nth vs 0) h
  coro_calm s Intrinsic.CoroDone args vs result ne h = done_calm s result (nth vs 0) h
  coro_calm s Intrinsic.CoroPromise args vs result ne h =
      promise_calm s result (framed_promise g s (nth vs 0) (operand_at args 2)) h
  coro_calm s Intrinsic.LifetimeStart args vs result ne h = h
  coro_calm s Intrinsic.LifetimeEnd args vs result ne h = h
  coro_calm s Intrinsic.MemcpyI64 args vs result ne h = h
  coro_calm s Intrinsic.MemcpyI32 args vs result ne h = h

  -- ---- deallocation and branches

  let_go_calm : (s : State) (p : Value) (o : Option (ℕ × Instance)) → instance_at s.instances p ≡ o → Calm s
      → Calm (if_let_go s o)
  let_go_calm s p None eo h = h
  let_go_calm s p (Some (i, x)) eo h = by (may_be_freed x)
    where
      by : (t : Bool) → Calm (if t then let_go s i x else s)
      by true =
          instance_calm s i x (record x { freed = true }) (at_found s p i x eo)
          (record { coroutine = refl; released = λ e. e; freed = λ e. absurd (cc) }) h
      by false = h

  deallocate_calm : (s : State) (p : Value) → Calm s → KeepsCalm (deallocate s p)
  deallocate_calm s p h =
      by (if_let_go s (instance_at s.instances p)) (let_go_calm s p (instance_at s.instances p) refl h)
    where
      on : (z : State) → Calm z → (r : Result (List MemoryBlock) Cause)
          → KeepsCalm (and_then r (λ (memory : List MemoryBlock). Ok (next (with_memory z memory))))
      on z k (Err cause) = tt
      on z k (Ok memory) = k

      by : (z : State) → Calm z → KeepsCalm (and_then (deallocated z.world.memory p)
          (λ (memory : List MemoryBlock). Ok (next (with_memory z memory))))
      by z k = on z k (deallocated z.world.memory p)

  branch_calm : (s : State) (label : ℕ) (ws : List Window) → Calm s → KeepsCalm (branch_leaving g.given s label ws)
  branch_calm s label [] h = h
  branch_calm s label (w ∷ ws) h = by (own_instance s) refl
    where
      by : (o : Option (ℕ × Instance)) → own_instance s ≡ o
          → KeepsCalm (and_then (found Cause.State o) (λ (i, x).
          ok_if (list_all (may_leave (length s.below) x) (w ∷ ws)) Cause.State
          (enter_block g.given (with_left (with_status s i x Status.Running) false) label)))
      by None eo = tt
      by (Some (i, x)) eo =
          if_keeps (list_all (may_leave (length s.below) x) (w ∷ ws)) Cause.State
          (enter_block g.given (with_left (with_status s i x Status.Running) false) label)
          (instance_calm s i x (record x { status = Status.Running }) (own_number s i x eo).1
          (record { coroutine = refl; released = λ e. e; freed = λ e. e }) h)

  -- ---- actions

  -- an action that is no coro.free
  abbrev pub IsNoRelease : Action → Type 0
  IsNoRelease a = (args : List Arg) (result : Option ℕ) → a ≡ Coro Intrinsic.CoroFree args result → ⊥

  pub act_calm : (s : State) (a : Action) → IsNoRelease a → Calm s → KeepsCalm (framed_act g s a)
  act_calm s (Done w) never h = h
  act_calm s (NewSlot w z) never h = slot_calm (settled s w) z s.top.mode h
  act_calm s (Enter func args result must_tail) never h = h
  act_calm s (Coro i args result) never h =
      coro_calm s i args (arg_values g.given.code s.top.values args) result
      (λ is. never args result (ap (λ (j : Intrinsic). Coro j args result) is)) h
  act_calm s (Deallocate p) never h = deallocate_calm s p h
  act_calm s (GoTo label) never h = branch_calm s label (left_windows g.given s label) h
  act_calm s (Return v) never h = return_calm s v h
  act_calm s (Stuck cause) never h = tt
