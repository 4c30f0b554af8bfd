-- In each state of a framed run instances have no slots. Activations that execute their allocas again go on at labels
-- behind suspends.
use Rattle.std.proofs.Common.{◌≡◌, ◌≢◌, ◌⊎◌, inl, inr, ⊎_elim, ◌∙◌, ◌++◌, ℕ, Bool, true, false, cond, not, List, [], ◌∷◌, length, Result, Ok, Err, ap, refl, subst, if◌then◌else◌, ◌&&◌, ◌==◌}
use Rattle.std.specs.List.{list_all}
use Rattle.std.specs.Prelude.{None, Option, Some, filter, is_none, negsuc, slice_get, unwrap_or}
use Rattle.pass_elide_apart.specs.Behind.{EnterBehind, EntersBehind, IsBehindSuspend, LeadsBehind, SleepBehind}
use Rattle.pass_elide_edges.proofs.pass_elide_proof.Begun.{end_or_before}
use Rattle.pass_elide_edges.proofs.pass_elide_proof.Changing.{WasSet, was_set}
use Rattle.pass_elide_edges.proofs.pass_elide_proof.LastFound.{found_there}
use Rattle.pass_elide_edges.proofs.pass_elide_proof.Saves.{own_number}
use Rattle.pass_elide_edges.specs.pass_elide_proof.OwnSlots.{HaveNoSlots}
use Rattle.pass_elide_runs.proofs.KnownModes.{asleep}
use Rattle.pass_elide_edges.proofs.pass_elide_proof.pass_proofs.ir_laws.facts.Lists.{get_last}
use Rattle.pass_elide_edges.specs.pass_elide_proof.pass_proofs.ir_base.declared.cause.Cause.{Cause}
use Rattle.pass_elide_edges.specs.pass_elide_proof.pass_proofs.ir_base.declared.outcome.Outcome.{Outcome}
use Rattle.pass_elide_edges.specs.pass_elide_proof.pass_proofs.ir_model.Names.{function_at}
use Rattle.pass_elide_edges.specs.pass_elide_proof.pass_proofs.ir_model.declared.instr.Instr.{Instr}
use Rattle.pass_elide_edges.specs.pass_elide_proof.pass_proofs.ir_model.declared.module.Module.{Module}
use Rattle.pass_elide_edges.specs.pass_elide_proof.pass_proofs.ir_model.declared.operand.Arg.{Arg}
use Rattle.pass_elide_edges.specs.pass_elide_proof.pass_proofs.ir_model.declared.operand.Callee.{Callee}
use Rattle.pass_elide_edges.specs.pass_elide_proof.pass_proofs.ir_model.declared.operand.Intrinsic.{Intrinsic}
use Rattle.pass_elide_edges.specs.pass_elide_proof.pass_proofs.ir_model.declared.operand.Operand.{Operand}
use Rattle.pass_elide_edges.specs.pass_elide_proof.pass_proofs.ir_paths.Windows.{destroy_label, operand_at, resume_label, suspend_of}
use Rattle.pass_elide_edges.specs.pass_elide_proof.pass_proofs.ir_paths.declared.point.Point.{Point}
use Rattle.pass_elide_edges.specs.pass_elide_proof.pass_proofs.ir_paths.declared.point.Window.{Window}
use Rattle.pass_elide_edges.specs.pass_elide_proof.pass_proofs.run_framed.Framed.{FramedGiven, alloca_from, are_finished_at, begin_given, begin_given_at, begin_in_block, begin_in_frame, continue_framed, disown_given, enter_after, enter_given, frame_around, framed_act, framed_advance, framed_begin, framed_context, framed_coro, framed_finish, framed_next, framed_promise, framed_slot, framed_step, given_ramp, has_room, has_size, is_stack_block, last_value, reentry_values}
use Rattle.pass_elide_edges.specs.pass_elide_proof.pass_proofs.run_laws.changed.Changed.{Each}
use Rattle.pass_elide_edges.specs.pass_elide_proof.pass_proofs.run_memory.Memory.{disown, own}
use Rattle.pass_elide_edges.specs.pass_elide_proof.pass_proofs.run_memory.declared.block.Kind.{Kind}
use Rattle.pass_elide_edges.specs.pass_elide_proof.pass_proofs.run_memory.declared.block.MemoryBlock.{MemoryBlock}
use Rattle.pass_elide_edges.specs.pass_elide_proof.pass_proofs.run_memory.declared.pointer.Pointer.{Pointer}
use Rattle.pass_elide_edges.specs.pass_elide_proof.pass_proofs.run_memory.declared.pointer.Value.{Value}
use Rattle.pass_elide_edges.specs.pass_elide_proof.pass_proofs.run_source.Source.{Sleeper, after_end, begin, begin_at, begun, branch_leaving, change_own, deallocate, destroy, done_at, end_of, enter_block, if_let_go, is_among, is_live_at, left_windows, let_go, may_be_freed, may_leave, new_instance, pop, push, release, resume, resumed, return, returned, save, save_before, save_for, sleeper_at, slots_of, suspend}
use Rattle.pass_elide_edges.specs.pass_elide_proof.pass_proofs.run_source.State.{began_at, frame_address_of, function_of, gives, instance_at, next, or_undefined, own_frame, own_instance, point_of, settled, with_instance, with_left, with_memory, with_slots, with_status, work_of}
use Rattle.pass_elide_edges.specs.pass_elide_proof.pass_proofs.run_source.declared.state.Activation.{Activation}
use Rattle.pass_elide_edges.specs.pass_elide_proof.pass_proofs.run_source.declared.state.Instance.{Instance}
use Rattle.pass_elide_edges.specs.pass_elide_proof.pass_proofs.run_source.declared.state.Mode.{Mode}
use Rattle.pass_elide_edges.specs.pass_elide_proof.pass_proofs.run_source.declared.state.State.{State}
use Rattle.pass_elide_edges.specs.pass_elide_proof.pass_proofs.run_source.declared.state.Status.{Status}
use Rattle.pass_elide_edges.specs.pass_elide_proof.pass_proofs.run_source_tables.Given.{facts_at, has_final, is_final}
use Rattle.pass_elide_edges.specs.pass_elide_proof.pass_proofs.run_step.Results.{and_then, found, ok_if}
use Rattle.pass_elide_edges.specs.pass_elide_proof.pass_proofs.run_step.Step.{Action, AtInstr, AtTerm, Coro, Deallocate, Done, Enter, Fetched, GoTo, NewSlot, Nowhere, Return, Stuck, action_of, block_of, deallocated, fetch, outcome_of, without_slots}
use Rattle.pass_elide_edges.specs.pass_elide_proof.pass_proofs.run_step.Values.{arg_values, integer, nth, truth_value}
use Rattle.pass_elide_edges.specs.pass_elide_proof.pass_proofs.run_step.declared.world.Slot.{Slot}

-- what passes a test leaves nothing
none_left : (test : Slot → Bool) (zs : List Slot) → Each (λ (z : Slot). test z ≡ true) zs
    → filter (λ (z : Slot). not (test z)) zs ≡ []
none_left test [] h = refl
none_left test (z ∷ zs) h = on (test z) h.0 (none_left test zs h.1)
  where
    on : (b : Bool) → b ≡ true → filter (λ (y : Slot). not (test y)) zs ≡ []
        → cond (not b) (z ∷ filter (λ (y : Slot). not (test y)) zs) (filter (λ (y : Slot). not (test y)) zs) ≡ []
    on true is rest = rest
    on false is rest = absurd (cc)

called_calm : (b : Bool) (from label : ℕ) → (if b then Mode.Ramp else Mode.Plain) ≡ Mode.Entering from label → ⊥
called_calm true from label h = cc
called_calm false from label h = cc

at_found : (xs : List Instance) (p : Value) (i : ℕ) (x : Instance) → instance_at xs p ≡ Some (i, x)
    → slice_get xs i ≡ Some x
at_found xs (Value.Ptr (Pointer.At b o)) i x is = (found_there (began_at b o.bits) xs (i, x) is).0
at_found xs (Value.Ptr Pointer.Null) i x is = absurd (cc)
at_found xs (Value.Ptr (Pointer.Func f)) i x is = absurd (cc)
at_found xs Value.Poison i x is = absurd (cc)
at_found xs (Value.Int n) i x is = absurd (cc)

module _ (g : FramedGiven) where
  abbrev m : Module
  m = g.given.code

  abbrev Fine : State → Type 0
  Fine s = HaveNoSlots s × EnterBehind g.given.code s

  abbrev Keeps : Result State Cause → Type 0
  Keeps (Err cause) = Unit {0}
  Keeps (Ok s) = Fine s

  then_keeps : (r : Result State Cause) (q : State → State) → Keeps r → ((s : State) → Fine s → Fine (q s))
      → Keeps (and_then r (λ (s : State). Ok (q s)))
  then_keeps (Err cause) q h on = tt
  then_keeps (Ok s) q h on = on s h

  and_keeps : {A : Type 0} (r : Result A Cause) (q : A → Result State Cause) → ((a : A) → Keeps (q a))
      → Keeps (and_then r q)
  and_keeps (Err cause) q h = tt
  and_keeps (Ok a) q h = h a

  if_keeps : (t : Bool) (cause : Cause) (s : State) → Fine s → Keeps (ok_if t cause s)
  if_keeps true cause s h = h
  if_keeps false cause s h = tt

  -- ---- small changes

  -- an instance without slots is set
  set_fine : (s : State) (i : ℕ) (x new : Instance) → slice_get s.instances i ≡ Some x → new.slots ≡ []
      → HaveNoSlots s → HaveNoSlots (with_instance s i new)
  set_fine s i x new there none h j y at = which was.is
    where
      was : WasSet s.instances i new j y
      was = was_set s.instances i x new there j y at

      which : ((j ≡ i) × (y ≡ new)) ⊎ ((j ≢ i) × (y ≡ was.was)) → y.slots ≡ []
      which (inl k) = ap (λ (z : Instance). z.slots) k.1 ∙ none
      which (inr k) = ap (λ (z : Instance). z.slots) k.1 ∙ h j was.was was.at

  -- it goes on at another alloca or at the label
  after_fine : (s : State) (from label : ℕ) (o : Option Point) → IsBehindSuspend (function_of g.given s) from label
      → HaveNoSlots s → Each (EntersBehind g.given.code) s.below → Fine (enter_after g s from label o)
  after_fine s from label (Some p) behind none below = (none, (by, below))
    where
      by : (k l : ℕ) → Mode.Entering from label ≡ Mode.Entering k l → IsBehindSuspend (function_of g.given s) k l
      by k l is =
          let one : from ≡ k = cc in
          let other : label ≡ l = cc in
          subst (λ (p : ℕ × ℕ). IsBehindSuspend (function_of g.given s) p.0 p.1) (λ j. (one j, other j)) behind
  after_fine s from label None behind none below = (none, (by, below))
    where
      by : (k l : ℕ) → Mode.Resumed ≡ Mode.Entering k l → IsBehindSuspend (function_of g.given s) k l
      by k l is = absurd (cc)

  slot_fine : (s : State) (z : Slot) (mode : Mode) → s.top.mode ≡ mode → Fine s → Fine (framed_slot g s z mode)
  slot_fine s z Mode.Plain is h = h
  slot_fine s z Mode.Ramp is h = h
  slot_fine s z Mode.Resumed is h = h
  slot_fine s z (Mode.GivenRamp frame) is h = h
  slot_fine s z (Mode.Entering from label) is h =
      after_fine (with_slots s (z ∷ s.top.slots)) from label (alloca_from (function_of g.given s) s.top.at)
      (h.1.0 from label is) h.0 h.1.1

  -- ---- begins

  abbrev OwnsAll : State → Type 0
  OwnsAll s =
      Each (λ (z : Slot). is_among (facts_at g.given.facts s.top.func).ramp_slots z ≡ true) s.top.slots

  begun_fine : (s : State) (b start : ℕ) → OwnsAll s → Fine s → Fine (begun g.given s b start)
  begun_fine s b start owns h = (
    set_fine (record s { instances = s.instances ++ new_instance s.top.func b start ∷ [] }) (length s.instances)
        (new_instance s.top.func b start) _ (get_last s.instances (new_instance s.top.func b start))
        (ap (λ (zs : List Slot). zs ++ [])
        (none_left (is_among (facts_at g.given.facts s.top.func).ramp_slots) s.top.slots owns)) appended,
    h.1,
  )
    where
      appended : (i : ℕ) (y : Instance)
          → slice_get (s.instances ++ new_instance s.top.func b start ∷ []) i ≡ Some y → y.slots ≡ []
      appended i y at =
          ⊎_elim (λ last. ap (λ (z : Instance). z.slots) last.1) (λ old. h.0 i y old)
          (end_or_before s.instances (new_instance s.top.func b start) y i at)

  begin_at_fine : (s : State) (mem : Value) (kind : Kind) → OwnsAll s → Fine s → Keeps (begin_at g.given s mem kind)
  begin_at_fine s mem kind owns h =
      and_keeps (own s.world.memory mem (own_frame g.given s).size kind)
      (λ (memory : List MemoryBlock). and_then (found Cause.Begin (block_of mem))
      (λ (b : ℕ). Ok (begun g.given (with_memory s memory) b 0)))
      (λ memory. and_keeps (found Cause.Begin (block_of mem))
      (λ (b : ℕ). Ok (begun g.given (with_memory s memory) b 0))
      (λ b. begun_fine (with_memory s memory) b 0 owns h))

  begin_fine : (s : State) (result : Option ℕ) (mem : Value) → OwnsAll s → Fine s → Keeps (begin g.given s result mem)
  begin_fine s result mem owns h = by (is_none s.top.instance)
    where
      by : (t : Bool) → Keeps (and_then (ok_if t Cause.Begin s) (λ (s : State).
          and_then (begin_at g.given s mem Kind.Allocator) (λ (s : State). Ok (gives s result mem))))
      by true =
          then_keeps (begin_at g.given s mem Kind.Allocator) (λ (z : State). gives z result mem)
          (begin_at_fine s mem Kind.Allocator owns h) (λ z k. k)
      by false = tt

  given_at_fine : (s : State) (frame : Value) → OwnsAll s → Fine s → Keeps (begin_given_at g s frame)
  given_at_fine s (Value.Ptr (Pointer.At b o)) owns h =
      by (has_room g o.bits (own_frame g.given s).size (frame_around g s.instances b o.bits))
    where
      in_block : (t : Bool) → Keeps (and_then (ok_if t Cause.Begin s)
          (λ (z : State). begin_at g.given z (Value.Ptr (Pointer.At b o)) Kind.Stack))
      in_block true = begin_at_fine s (Value.Ptr (Pointer.At b o)) Kind.Stack owns h
      in_block false = tt

      by : (t : Bool) → Keeps (if t then begin_in_frame g s b o else begin_in_block g s b o)
      by true =
          if_keeps (is_live_at s.world.memory b) Cause.Begin (begun g.given s b o.bits)
          (begun_fine s b o.bits owns h)
      by false = in_block ((o.bits == 0) && has_size s.world.memory b (own_frame g.given s).size)
  given_at_fine s (Value.Ptr Pointer.Null) owns h = tt
  given_at_fine s (Value.Ptr (Pointer.Func f)) owns h = tt
  given_at_fine s Value.Poison owns h = tt
  given_at_fine s (Value.Int n) owns h = tt

  begin_given_fine : (s : State) (result : Option ℕ) (frame : Value) → OwnsAll s → Fine s
      → Keeps (begin_given g s result frame)
  begin_given_fine s result frame owns h = by (is_none s.top.instance && are_finished_at s.instances frame)
    where
      by : (t : Bool) → Keeps (and_then (ok_if t Cause.Begin s) (λ (s : State).
          and_then (begin_given_at g s frame) (λ (s : State). Ok (gives s result frame))))
      by true =
          then_keeps (begin_given_at g s frame) (λ (z : State). gives z result frame) (given_at_fine s frame owns h)
          (λ z k. k)
      by false = tt

  framed_begin_fine : (s : State) (result : Option ℕ) (mem : Value) (mode : Mode) → OwnsAll s → Fine s
      → Keeps (framed_begin g s result mem mode)
  framed_begin_fine s result mem (Mode.GivenRamp frame) owns h = begin_given_fine s result frame owns h
  framed_begin_fine s result mem Mode.Plain owns h = begin_fine s result mem owns h
  framed_begin_fine s result mem Mode.Ramp owns h = begin_fine s result mem owns h
  framed_begin_fine s result mem Mode.Resumed owns h = begin_fine s result mem owns h
  framed_begin_fine s result mem (Mode.Entering from label) owns h = begin_fine s result mem owns h

  -- ---- saves, suspends and frees

  abbrev saved_as : State → Point → Point → Instance → Instance
  saved_as s p q x =
      record x {
        status = Status.Suspended q s.top.values;
        last_save = Some (record { depth = length s.below; save = p });
      }

  save_for_fine : (s : State) (p q : Point) → Fine s → Keeps (save_for s p q)
  save_for_fine s p q h = by (own_instance s) refl
    where
      by : (o : Option (ℕ × Instance)) → own_instance s ≡ o
          → Keeps (and_then (found Cause.State o) (λ (i, x). ok_if (not x.freed) Cause.State
          (with_left (with_instance s i (saved_as s p q x)) true)))
      by None eo = tt
      by (Some (i, x)) eo =
          let there = (own_number s i x eo).1 in
          if_keeps (not x.freed) Cause.State (with_left (with_instance s i (saved_as s p q x)) true)
          (set_fine s i x (saved_as s p q x) there (h.0 i x there) h.0, h.1)

  save_fine : (s : State) → Fine s → Keeps (save g.given s)
  save_fine s h = by (suspend_of (function_of g.given s) (point_of s))
    where
      by : (o : Option Point) → Keeps (and_then (found Cause.State o) (λ (q : Point).
          and_then (save_for s (point_of s) q) (λ (z : State). Ok (next z))))
      by None = tt
      by (Some q) = then_keeps (save_for s (point_of s) q) next (save_for_fine s (point_of s) q h) (λ z k. k)

  before_fine : (s : State) (x : Operand) → Fine s → Keeps (save_before s x)
  before_fine s Operand.None h = save_for_fine s (point_of s) (point_of s) h
  before_fine s (Operand.Local v) h = h
  before_fine s (Operand.Global name) h = h
  before_fine s (Operand.Number z) h = h
  before_fine s Operand.True h = h
  before_fine s Operand.False h = h
  before_fine s Operand.Null h = h
  before_fine s Operand.Poison h = h

  suspend_fine : (s : State) (result : Option ℕ) (x : Operand) → Fine s → Keeps (suspend s result x)
  suspend_fine s result x h =
      then_keeps (save_before s x) (λ (z : State). gives z result (integer 8 (negsuc 0))) (before_fine s x h)
      (λ z k. k)

  release_fine : (s : State) → Fine s → Fine (release s)
  release_fine s h = by (own_instance s) refl
    where
      by : (o : Option (ℕ × Instance)) → own_instance s ≡ o
          → Fine (change_own s (λ (x : Instance). record x { released = true }) o)
      by None eo = h
      by (Some (i, x)) eo =
          let there = (own_number s i x eo).1 in
          (set_fine s i x (record x { released = true }) there (h.0 i x there) h.0, h.1)

  -- ---- returns and ends

  pop_fine : (s : State) (v : Option Value) (below : List Activation) → s.below ≡ below → Fine s
      → Keeps (pop s v below)
  pop_fine s v [] is h = by (outcome_of v)
    where
      by : (r : Result Outcome Cause) → Keeps (and_then r (λ (outcome : Outcome). Ok (record s { outcome = outcome })))
      by (Err cause) = tt
      by (Ok outcome) = h
  pop_fine s v (a ∷ below) is h =
      (h.0, subst (λ (rows : List Activation). Each (EntersBehind g.given.code) rows) is h.1.1)

  return_fine : (s : State) (v : Option Value) → Fine s → Keeps (return s v)
  return_fine s v h = pop_fine (returned s) v s.below refl h

  finish_fine : (s : State) → Fine s → Fine (framed_finish s)
  finish_fine s h = by (own_instance s) refl
    where
      by : (o : Option (ℕ × Instance)) → own_instance s ≡ o
          → Fine (disown_given (with_memory (change_own s (λ (x : Instance). record x { status = Status.Finished }) o)
          (without_slots s.world.memory (slots_of o))) o)
      by None eo = h
      by (Some (i, x)) eo = on (is_stack_block (without_slots s.world.memory x.slots) x.block && (x.start == 0))
        where
          there : slice_get s.instances i ≡ Some x
          there = (own_number s i x eo).1

          set : Fine (with_memory (with_instance s i (record x { status = Status.Finished }))
              (without_slots s.world.memory x.slots))
          set = (set_fine s i x (record x { status = Status.Finished }) there (h.0 i x there) h.0, h.1)

          on : (t : Bool)
              → Fine (if t then with_memory (with_memory (with_instance s i (record x { status = Status.Finished }))
              (without_slots s.world.memory x.slots)) (disown (without_slots s.world.memory x.slots) x.block)
              else (with_memory (with_instance s i (record x { status = Status.Finished }))
              (without_slots s.world.memory x.slots)))
          on true = set
          on false = set

  ended_fine : (s : State) (result : Option ℕ) (mode : Mode) → Fine s → Keeps (after_end s result mode)
  ended_fine s result Mode.Resumed h = return_fine s None h
  ended_fine s result Mode.Plain h = h
  ended_fine s result Mode.Ramp h = h
  ended_fine s result (Mode.GivenRamp frame) h = h
  ended_fine s result (Mode.Entering from label) h = h

  end_fine : (s : State) (result : Option ℕ) → Fine s → Keeps (end_of s framed_finish result)
  end_fine s result h =
      ended_fine (if s.top.has_left then s else framed_finish s) result s.top.mode (by s.top.has_left)
    where
      by : (t : Bool) → Fine (if t then s else framed_finish s)
      by true = h
      by false = finish_fine s h

  -- ---- resume, destroy, done, promise

  woken_fine : (s : State) (y : Sleeper) (label : ℕ) → slice_get s.instances y.number ≡ Some y.instance
      → IsBehindSuspend (function_at m y.instance.coroutine) y.suspend.block label → Fine s
      → Fine (continue_framed g s y.number y.instance y.suspend y.values label)
  woken_fine s y label there behind h =
      after_fine
      (push (with_status s y.number y.instance Status.Running) (resumed y.number y.instance y.suspend (reentry_values
      (function_at m y.instance.coroutine) (frame_address_of y.instance))))
      y.suspend.block label (alloca_from (function_at m y.instance.coroutine) 0) behind
      (set_fine s y.number y.instance (record y.instance { status = Status.Running }) there
      (h.0 y.number y.instance there) h.0) h.1

  labels : (s : State) (p : Value) (y : Sleeper) → SleepBehind g.given.code s → sleeper_at s p ≡ Ok y
      → LeadsBehind (function_at m y.instance.coroutine) y.suspend
  labels s p y sleeps is =
      let k = asleep s p y is in sleeps y.number y.instance y.suspend y.values k.there k.status

  resume_fine : (s : State) (p : Value) → SleepBehind g.given.code s → Fine s
      → Keeps (resume g.given (continue_framed g) s p)
  resume_fine s p sleeps h = by (sleeper_at s p) refl
    where
      by : (r : Result Sleeper Cause) → sleeper_at s p ≡ r → Keeps (and_then r (λ (y : Sleeper).
          ok_if (not (is_final (function_at g.given.code y.instance.coroutine) y.suspend)) Cause.State
          (continue_framed g s y.number y.instance y.suspend y.values
          (resume_label (function_at g.given.code y.instance.coroutine) y.suspend))))
      by (Err cause) is = tt
      by (Ok y) is =
          if_keeps (not (is_final (function_at g.given.code y.instance.coroutine) y.suspend)) Cause.State _
          (woken_fine s y (resume_label (function_at g.given.code y.instance.coroutine) y.suspend)
          (asleep s p y is).there (labels s p y sleeps is).resume h)

  destroy_fine : (s : State) (p : Value) → SleepBehind g.given.code s → Fine s
      → Keeps (destroy g.given (continue_framed g) s p)
  destroy_fine s p sleeps h = by (sleeper_at s p) refl
    where
      by : (r : Result Sleeper Cause) → sleeper_at s p ≡ r → Keeps (and_then r (λ (y : Sleeper).
          Ok (continue_framed g s y.number y.instance y.suspend y.values
          (destroy_label (function_at g.given.code y.instance.coroutine) y.suspend))))
      by (Err cause) is = tt
      by (Ok y) is =
          woken_fine s y (destroy_label (function_at g.given.code y.instance.coroutine) y.suspend)
          (asleep s p y is).there (labels s p y sleeps is).destroy h

  done_fine : (s : State) (result : Option ℕ) (p : Value) → Fine s → Keeps (done_at g.given s result p)
  done_fine s result p h = by (sleeper_at s p)
    where
      by : (r : Result Sleeper Cause) → Keeps (and_then r (λ (y : Sleeper).
          ok_if (has_final (function_at g.given.code y.instance.coroutine)) Cause.State
          (gives s result (truth_value (is_final (function_at g.given.code y.instance.coroutine) y.suspend)))))
      by (Err cause) = tt
      by (Ok y) =
          if_keeps (has_final (function_at g.given.code y.instance.coroutine)) Cause.State
          (gives s result (truth_value (is_final (function_at g.given.code y.instance.coroutine) y.suspend))) h

  promise_fine : (s : State) (result : Option ℕ) (r : Result Value Cause) → Fine s
      → Keeps (and_then r (λ (v : Value). Ok (gives s result v)))
  promise_fine s result (Err cause) h = tt
  promise_fine s result (Ok v) h = h

  coro_fine : (s : State) (i : Intrinsic) (args : List Arg) (vs : List Value) (result : Option ℕ) → OwnsAll s
      → SleepBehind g.given.code s → Fine s → Keeps (framed_coro g s i args vs result)
  coro_fine s Intrinsic.CoroId args vs result owns sleeps h = h
  coro_fine s Intrinsic.CoroSizeI32 args vs result owns sleeps h = h
  coro_fine s Intrinsic.CoroSizeI64 args vs result owns sleeps h = h
  coro_fine s Intrinsic.CoroAlignI32 args vs result owns sleeps h = h
  coro_fine s Intrinsic.CoroAlignI64 args vs result owns sleeps h = h
  coro_fine s Intrinsic.CoroAlloc args vs result owns sleeps h = h
  coro_fine s Intrinsic.CoroBegin args vs result owns sleeps h =
      framed_begin_fine s result (nth vs 1) s.top.mode owns h
  coro_fine s Intrinsic.CoroFree args vs result owns sleeps h = release_fine s h
  coro_fine s Intrinsic.CoroFrame args vs result owns sleeps h = h
  coro_fine s Intrinsic.CoroSave args vs result owns sleeps h = save_fine s h
  coro_fine s Intrinsic.CoroSuspend args vs result owns sleeps h = suspend_fine s result (operand_at args 0) h
  coro_fine s Intrinsic.CoroEnd args vs result owns sleeps h = end_fine s result h
  coro_fine s Intrinsic.CoroResume args vs result owns sleeps h = resume_fine s (nth vs 0) sleeps h
  coro_fine s Intrinsic.CoroDestroy args vs result owns sleeps h = destroy_fine s (nth vs 0) sleeps h
  coro_fine s Intrinsic.CoroDone args vs result owns sleeps h = done_fine s result (nth vs 0) h
  coro_fine s Intrinsic.CoroPromise args vs result owns sleeps h =
      promise_fine s result (framed_promise g s (nth vs 0) (operand_at args 2)) h
  coro_fine s Intrinsic.LifetimeStart args vs result owns sleeps h = h
  coro_fine s Intrinsic.LifetimeEnd args vs result owns sleeps h = h
  coro_fine s Intrinsic.MemcpyI64 args vs result owns sleeps h = h
  coro_fine s Intrinsic.MemcpyI32 args vs result owns sleeps h = h

  -- ---- deallocation and branches

  let_go_fine : (s : State) (p : Value) (o : Option (ℕ × Instance)) → instance_at s.instances p ≡ o → Fine s
      → Fine (if_let_go s o)
  let_go_fine s p None eo h = h
  let_go_fine s p (Some (i, x)) eo h = by (may_be_freed x)
    where
      there : slice_get s.instances i ≡ Some x
      there = at_found s.instances p i x eo

      by : (t : Bool) → Fine (if t then let_go s i x else s)
      by true = (set_fine s i x (record x { freed = true }) there (h.0 i x there) h.0, h.1)
      by false = h

  deallocate_fine : (s : State) (p : Value) → Fine s → Keeps (deallocate s p)
  deallocate_fine s p h =
      and_keeps (deallocated (if_let_go s (instance_at s.instances p)).world.memory p)
      (λ (memory : List MemoryBlock). Ok (next (with_memory (if_let_go s (instance_at s.instances p)) memory)))
      (λ memory. let_go_fine s p (instance_at s.instances p) refl h)

  branch_fine : (s : State) (label : ℕ) (ws : List Window) → Fine s → Keeps (branch_leaving g.given s label ws)
  branch_fine s label [] h = h
  branch_fine s label (w ∷ ws) h = by (own_instance s) refl
    where
      by : (o : Option (ℕ × Instance)) → own_instance s ≡ o
          → Keeps (and_then (found Cause.State o) (λ (i, x).
          ok_if (list_all (may_leave (length s.below) x) (w ∷ ws)) Cause.State
          (enter_block g.given (with_left (with_status s i x Status.Running) false) label)))
      by None eo = tt
      by (Some (i, x)) eo =
          let there = (own_number s i x eo).1 in
          if_keeps (list_all (may_leave (length s.below) x) (w ∷ ws)) Cause.State
          (enter_block g.given (with_left (with_status s i x Status.Running) false) label)
          (set_fine s i x (record x { status = Status.Running }) there (h.0 i x there) h.0, h.1)

  -- ---- steps

  module _ (s : State) (owns : OwnsAll s) (sleeps : SleepBehind g.given.code s) (h : Fine s) where
    act_fine : (a : Action) → Keeps (framed_act g s a)
    act_fine (Done w) = h
    act_fine (NewSlot w z) = slot_fine (settled s w) z s.top.mode refl h
    act_fine (Enter func args result must_tail) =
        (h.0, (λ from label is. absurd (called_calm (function_at m func).coroutine from label is), h.1))
    act_fine (Coro i args result) =
        coro_fine s i args (arg_values g.given.code s.top.values args) result owns sleeps h
    act_fine (Deallocate p) = deallocate_fine s p h
    act_fine (GoTo label) = branch_fine s label (left_windows g.given s label) h
    act_fine (Return v) = return_fine s v h
    act_fine (Stuck cause) = tt

    acted : (x : Fetched) → Keeps (framed_act g s (action_of (framed_context g s) (work_of s) x))
    acted x = act_fine (action_of (framed_context g s) (work_of s) x)

    named : (x : Fetched) (result : Option ℕ) (vs : List Value) (o : Option ℕ)
        → Keeps (unwrap_or (enter_given g s result vs o)
        (framed_act g s (action_of (framed_context g s) (work_of s) x)))
    named x result vs None = acted x
    named x result vs (Some func) = (h.0, (by, h.1))
      where
        by : (from label : ℕ) → Mode.GivenRamp (last_value vs) ≡ Mode.Entering from label
            → IsBehindSuspend (function_at m func) from label
        by from label is = absurd (cc)

    next_keeps : (x : Fetched) → Keeps (framed_next g s x)
    next_keeps Nowhere = acted Nowhere
    next_keeps (AtTerm t) = acted (AtTerm t)
    next_keeps (AtInstr (Instr.Call result must_tail ty (Callee.Named name) args)) =
        named (AtInstr (Instr.Call result must_tail ty (Callee.Named name) args)) result
        (arg_values g.given.code s.top.values args) (given_ramp g.given.code name)
    next_keeps (AtInstr (Instr.Call result must_tail ty (Callee.Allocator a) args)) =
        acted (AtInstr (Instr.Call result must_tail ty (Callee.Allocator a) args))
    next_keeps (AtInstr (Instr.Call result must_tail ty (Callee.Intrinsic i) args)) =
        acted (AtInstr (Instr.Call result must_tail ty (Callee.Intrinsic i) args))
    next_keeps (AtInstr (Instr.Call result must_tail ty (Callee.Local v) args)) =
        acted (AtInstr (Instr.Call result must_tail ty (Callee.Local v) args))
    next_keeps (AtInstr (Instr.Binary name op flags ty a b)) = acted (AtInstr (Instr.Binary name op flags ty a b))
    next_keeps (AtInstr (Instr.Icmp name pred ty a b)) = acted (AtInstr (Instr.Icmp name pred ty a b))
    next_keeps (AtInstr (Instr.Select name x a b)) = acted (AtInstr (Instr.Select name x a b))
    next_keeps (AtInstr (Instr.Cast name op nneg arg to)) = acted (AtInstr (Instr.Cast name op nneg arg to))
    next_keeps (AtInstr (Instr.Alloca name ty align)) = acted (AtInstr (Instr.Alloca name ty align))
    next_keeps (AtInstr (Instr.Load name ty p align)) = acted (AtInstr (Instr.Load name ty p align))
    next_keeps (AtInstr (Instr.Store arg p align)) = acted (AtInstr (Instr.Store arg p align))
    next_keeps (AtInstr (Instr.Gep name inbounds ty base indices)) =
        acted (AtInstr (Instr.Gep name inbounds ty base indices))

    undefined_keeps : (r : Result State Cause) → Keeps r → Fine (or_undefined g.given s r)
    undefined_keeps (Err cause) k = h
    undefined_keeps (Ok u) k = k

    advance_fine : (o : Outcome) → Fine (framed_advance g s o)
    advance_fine Outcome.Running =
        undefined_keeps (framed_next g s (fetch (function_of g.given s) s.top.block s.top.at))
        (next_keeps (fetch (function_of g.given s) s.top.block s.top.at))
    advance_fine (Outcome.Returned v) = h
    advance_fine (Outcome.Undefined cause place) = h

    pub step_fine : HaveNoSlots (framed_step g s) × EnterBehind g.given.code (framed_step g s)
    step_fine = advance_fine s.outcome
