-- Each step of a framed run leads from a sound state to a sound one.
use Rattle.std.proofs.Common.{◌≡◌, ◌<◌, ◌+◌, ℕ, zero, suc, Bool, true, false, not, List, [], ◌∷◌, ◌++◌, length, map, Result, Ok, Err, refl, sym, ap, ◌∙◌, subst, arith, if◌then◌else◌, ◌&&◌, ◌||◌, ◌==◌}
use Rattle.std.proofs.lemmas.Bool.{and_right}
use Rattle.std.specs.List.{list_all, list_any}
use Rattle.std.specs.Option.{option_map_or}
use Rattle.std.specs.Prelude.{None, Option, Some, is_none, negsuc, slice_get, slice_set, unwrap_or}
use Rattle.pass_elide_proof.proofs.Aging.{Ages, AgesBy, AgesTo, actions_age, ages_block, ages_then, disown_keeps, kill_ages, slots_age}
use Rattle.pass_elide_proof.proofs.BeginSteps.{begun_in, begun_is}
use Rattle.pass_elide_proof.proofs.Begins.{free_block}
use Rattle.pass_elide_proof.proofs.Begun.{stack_still}
use Rattle.pass_elide_proof.proofs.Changing.{new_there}
use Rattle.pass_elide_proof.proofs.Found.{where_last}
use Rattle.pass_elide_proof.proofs.Saves.{own_number}
use Rattle.pass_elide_proof.proofs.Soundness.{acts_on, after_stacks, blocks_age, blocks_begun, blocks_finished, blocks_set, go_more, go_set, go_themselves}
use Rattle.pass_elide_proof.proofs.Starts.{unowned}
use Rattle.pass_elide_proof.specs.Sound.{IsSoundAct, IsSoundState, KnowsAllocas, NestsNone}
use Rattle.pass_proofs.proofs.ir_laws.facts.Lists.{get_last, get_within, set_length}
use Rattle.pass_proofs.proofs.run_laws.memory.Written.{same_some}
use Rattle.pass_proofs.specs.frame_layout.declared.layout.PlacedField.{PlacedField}
use Rattle.pass_proofs.specs.ir_base.declared.cause.Cause.{Cause}
use Rattle.pass_proofs.specs.ir_base.declared.outcome.Outcome.{Outcome}
use Rattle.pass_proofs.specs.ir_base.declared.outcome.Word.{Word}
use Rattle.pass_proofs.specs.ir_model.Names.{function_at}
use Rattle.pass_proofs.specs.ir_model.declared.instr.Instr.{Instr}
use Rattle.pass_proofs.specs.ir_model.declared.module.GlobalItem.{GlobalItem}
use Rattle.pass_proofs.specs.ir_model.declared.operand.Arg.{Arg}
use Rattle.pass_proofs.specs.ir_model.declared.operand.Callee.{Callee}
use Rattle.pass_proofs.specs.ir_model.declared.operand.Intrinsic.{Intrinsic}
use Rattle.pass_proofs.specs.ir_model.declared.operand.Operand.{Operand}
use Rattle.pass_proofs.specs.ir_paths.Windows.{destroy_label, operand_at, resume_label, suspend_of}
use Rattle.pass_proofs.specs.ir_paths.declared.point.Point.{Point}
use Rattle.pass_proofs.specs.ir_paths.declared.point.Window.{Window}
use Rattle.pass_proofs.specs.run_framed.Framed.{FramedGiven, alloca_from, are_finished_at, begin_given, begin_given_at, begin_in_block, begin_in_frame, continue_framed, disown_given, enter_after, enter_given, frame_around, framed_act, framed_advance, framed_begin, framed_context, framed_coro, framed_finish, framed_next, framed_promise, framed_slot, framed_state_at, framed_step, given_ramp, has_room, has_size, is_frame_kind, is_over, is_room_at, is_stack_block, last_value, layout_of, reentry_values}
use Rattle.pass_proofs.specs.run_laws.changed.Changed.{Each}
use Rattle.pass_proofs.specs.run_memory.Memory.{check, disown, disowned, may_be_owned, own, owned_to, same_kind, with_block}
use Rattle.pass_proofs.specs.run_memory.declared.block.Kind.{Kind}
use Rattle.pass_proofs.specs.run_memory.declared.block.MemoryBlock.{MemoryBlock}
use Rattle.pass_proofs.specs.run_memory.declared.pointer.Pointer.{Pointer}
use Rattle.pass_proofs.specs.run_memory.declared.pointer.Value.{Value}
use Rattle.pass_proofs.specs.run_source.Source.{Sleeper, after_end, begin, begin_at, begun, branch_leaving, called, change_own, deallocate, destroy, done_at, end_of, enter_block, first_state, given_back, if_let_go, is_among, leave, left_windows, let_go, may_be_freed, may_leave, mode_of, new_instance, pop, push, release, resume, resumed, return, returned, save, save_before, save_for, sleeper_at, sleeper_of, slots_of, suspend}
use Rattle.pass_proofs.specs.run_source.State.{began_at, frame_address_of, function_of, gives, instance_at, is_finished, next, or_undefined, own_frame, own_instance, point_of, settled, with_instance, with_left, with_memory, with_slots, with_status, work_of}
use Rattle.pass_proofs.specs.run_source.declared.state.Activation.{Activation}
use Rattle.pass_proofs.specs.run_source.declared.state.Instance.{Instance}
use Rattle.pass_proofs.specs.run_source.declared.state.Mode.{Mode}
use Rattle.pass_proofs.specs.run_source.declared.state.State.{State}
use Rattle.pass_proofs.specs.run_source.declared.state.Status.{Status}
use Rattle.pass_proofs.specs.run_source_tables.Given.{facts_at, has_final, is_final}
use Rattle.pass_proofs.specs.run_step.Results.{and_then, found, ok_if}
use Rattle.pass_proofs.specs.run_step.Runs.{iterate}
use Rattle.pass_proofs.specs.run_step.Step.{Action, AtInstr, AtTerm, Coro, Deallocate, Done, Enter, Fetched, GoTo, NewSlot, Nowhere, Return, Stuck, Work, action_of, deallocated, fetch, global_block, outcome_of, without_slots}
use Rattle.pass_proofs.specs.run_step.Values.{arg_values, integer, nth, truth_value}
use Rattle.pass_proofs.specs.run_step.declared.world.Slot.{Slot}

-- ---- what an activation keeps

-- of one function, with the same slots and instance, in the same mode
act_same : (g : FramedGiven) (m : List MemoryBlock) (xs : List Instance) (a c : Activation) → c.func ≡ a.func
    → c.slots ≡ a.slots → c.instance ≡ a.instance → c.mode ≡ a.mode → IsSoundAct g m xs a → IsSoundAct g m xs c
act_same g m xs a c func slots instance mode h = record {
  known = λ i is. h.known i (sym instance ∙ is);
  coroutine = λ i x is there. h.coroutine i x (sym instance ∙ is) there ∙ sym func;
  own = subst (λ (p : ℕ × List Slot).
      Each (λ (z : Slot). is_among (facts_at g.given.facts p.0).ramp_slots z ≡ true) p.1)
      (λ j. (sym func j, sym slots j)) h.own;
  given = λ frame i x is at there. h.given frame i x (sym mode ∙ is) (sym instance ∙ at) there;
}

-- in a mode in which no frame is given
act_other : (g : FramedGiven) (m : List MemoryBlock) (xs : List Instance) (a c : Activation) → c.func ≡ a.func
    → c.slots ≡ a.slots → c.instance ≡ a.instance → ((frame : Value) → c.mode ≡ Mode.GivenRamp frame → ⊥)
    → IsSoundAct g m xs a → IsSoundAct g m xs c
act_other g m xs a c func slots instance mode h = record {
  known = λ i is. h.known i (sym instance ∙ is);
  coroutine = λ i x is there. h.coroutine i x (sym instance ∙ is) there ∙ sym func;
  own = subst (λ (p : ℕ × List Slot).
      Each (λ (z : Slot). is_among (facts_at g.given.facts p.0).ramp_slots z ≡ true) p.1)
      (λ j. (sym func j, sym slots j)) h.own;
  given = λ frame i x is at there. absurd (mode frame is);
}

module _ (g : FramedGiven) (allocas : KnowsAllocas g) (nests : NestsNone g) where
  abbrev Sound : State → Type 0
  Sound s = IsSoundState g s

  abbrev Keeps : Result State Cause → Type 0
  Keeps (Err cause) = Unit {0}
  Keeps (Ok s) = Sound s

  then_keeps : (r : Result State Cause) (q : State → State) → Keeps r → ((s : State) → Sound s → Sound (q s))
      → Keeps (and_then r (λ (s : State). Ok (q s)))
  then_keeps (Err cause) q h on = tt
  then_keeps (Ok s) q h on = on s h

  if_keeps : (t : Bool) (cause : Cause) (s : State) → Sound s → Keeps (ok_if t cause s)
  if_keeps true cause s h = h
  if_keeps false cause s h = tt

  -- ---- small changes

  -- another activation on top
  with_top : (s : State) (a : Activation) → IsSoundAct g s.world.memory s.instances a → Sound s
      → Sound (record s { top = a })
  with_top s a act h = record { blocks = h.blocks; acts = (act, h.acts.1) }

  gives_sound : (s : State) (result : Option ℕ) (v : Value) → Sound s → Sound (gives s result v)
  gives_sound s result v h =
      with_top s (gives s result v).top
      (act_same g s.world.memory s.instances s.top (gives s result v).top refl refl refl refl h.acts.0) h

  next_sound : (s : State) → Sound s → Sound (next s)
  next_sound s h =
      with_top s (next s).top
      (act_same g s.world.memory s.instances s.top (next s).top refl refl refl refl h.acts.0) h

  left_sound : (s : State) (left : Bool) → Sound s → Sound (with_left s left)
  left_sound s left h =
      with_top s (with_left s left).top
      (act_same g s.world.memory s.instances s.top (with_left s left).top refl refl refl refl h.acts.0) h

  memory_sound : (s : State) (n : List MemoryBlock) → Ages s.world.memory n → Sound s → Sound (with_memory s n)
  memory_sound s n age h = record {
    blocks = blocks_age s.world.memory n s.instances h.blocks age;
    acts = acts_on g s.world.memory n s.instances s.instances age.stacks (go_themselves s.instances)
        (s.top ∷ s.below) h.acts;
  }

  -- an instance stays where it is
  instance_sound : (s : State) (i : ℕ) (x new : Instance) → slice_get s.instances i ≡ Some x → new.block ≡ x.block
      → new.start ≡ x.start → new.coroutine ≡ x.coroutine
      → (is_finished x.status ≡ false → is_finished new.status ≡ false) → Sound s
      → Sound (with_instance s i new)
  instance_sound s i x new there block start kind goes h = record {
    blocks = blocks_set s.world.memory s.instances i x new there block start goes h.blocks;
    acts = acts_on g s.world.memory s.world.memory s.instances (slice_set s.instances i new) (λ b is. is)
        (go_set s.instances i x new there block kind) (s.top ∷ s.below) h.acts;
  }

  enter_sound : (s : State) (label : ℕ) → Sound s → Sound (enter_block g.given s label)
  enter_sound s label h =
      with_top s (enter_block g.given s label).top
      (act_same g s.world.memory s.instances s.top (enter_block g.given s label).top refl refl refl refl h.acts.0) h

  push_sound : (s : State) (a : Activation) → IsSoundAct g s.world.memory s.instances a → Sound s
      → Sound (push s a)
  push_sound s a act h = record {
    blocks = h.blocks;
    acts = (
      act,
      (
        act_same g s.world.memory s.instances s.top (record s.top { at = s.top.at + 1 }) refl refl refl refl
            h.acts.0,
        h.acts.1,
      ),
    );
  }

  -- a new activation has no slots and no instance
  called_sound : (s : State) (func : ℕ) (args : List Value) (result : Option ℕ) (mode : Mode)
      → IsSoundAct g s.world.memory s.instances (called g.given.code func args result mode)
  called_sound s func args result mode = record {
    known = λ i is. absurd (cc);
    coroutine = λ i x is there. absurd (cc);
    own = tt;
    given = λ frame i x is at there. absurd (cc);
  }

  after_sound : (s : State) (from label : ℕ) (o : Option Point) → Sound s → Sound (enter_after g s from label o)
  after_sound s from label (Some p) h =
      with_top s (enter_after g s from label (Some p)).top
      (act_other g s.world.memory s.instances s.top (enter_after g s from label (Some p)).top refl refl refl
      (λ frame is. absurd (cc)) h.acts.0) h
  after_sound s from label None h =
      with_top s (enter_after g s from label None).top
      (act_other g s.world.memory s.instances s.top (enter_after g s from label None).top refl refl refl
      (λ frame is. absurd (cc)) h.acts.0) h

  -- ---- slots

  slot_sound : (s : State) (z : Slot) → is_among (facts_at g.given.facts s.top.func).ramp_slots z ≡ true → Sound s
      → Sound (with_slots s (z ∷ s.top.slots))
  slot_sound s z among h =
      with_top s (record s.top { slots = z ∷ s.top.slots })
      (record {
        known = h.acts.0.known;
        coroutine = h.acts.0.coroutine;
        own = (among, h.acts.0.own);
        given = h.acts.0.given;
      }) h

  framed_slot_sound : (s : State) (z : Slot) (mode : Mode)
      → is_among (facts_at g.given.facts s.top.func).ramp_slots z ≡ true → Sound s → Sound (framed_slot g s z mode)
  framed_slot_sound s z Mode.Plain among h = slot_sound s z among h
  framed_slot_sound s z Mode.Ramp among h = slot_sound s z among h
  framed_slot_sound s z Mode.Resumed among h = slot_sound s z among h
  framed_slot_sound s z (Mode.GivenRamp frame) among h = slot_sound s z among h
  framed_slot_sound s z (Mode.Entering from label) among h =
      after_sound (with_slots s (z ∷ s.top.slots)) from label (alloca_from (function_of g.given s) s.top.at)
      (slot_sound s z among h)

  -- ---- instances that are found

  found_there : (s : State) (p : Value) (i : ℕ) (x : Instance) → instance_at s.instances p ≡ Some (i, x)
      → slice_get s.instances i ≡ Some x
  found_there s (Value.Ptr (Pointer.At b o)) i x is = (where_last (began_at b o.bits) s.instances i x is).there
  found_there s (Value.Ptr Pointer.Null) i x is = absurd (cc)
  found_there s (Value.Ptr (Pointer.Func f)) i x is = absurd (cc)
  found_there s Value.Poison i x is = absurd (cc)
  found_there s (Value.Int n) i x is = absurd (cc)

  record IsAsleep (s : State) (y : Sleeper) : Type 0 where
    there : slice_get s.instances y.number ≡ Some y.instance

  Woken : State → Result Sleeper Cause → Type 0
  Woken s (Err cause) = Unit {0}
  Woken s (Ok y) = IsAsleep s y

  asleep : (s : State) (p : Value) → Woken s (sleeper_at s p)
  unfolding Woken
  asleep s p = by (instance_at s.instances p) refl
    where
      by_status : (i : ℕ) (x : Instance) (status : Status) → slice_get s.instances i ≡ Some x
          → Woken s (sleeper_of i x status)
      by_status i x Status.Running there = tt
      by_status i x Status.Finished there = tt
      by_status i x (Status.Suspended point values) there = record { there = there }

      by : (o : Option (ℕ × Instance)) → instance_at s.instances p ≡ o
          → Woken s (and_then (found Cause.Frame o) (λ (i, x). sleeper_of i x x.status))
      by None eo = tt
      by (Some (i, x)) eo = by_status i x x.status (found_there s p i x eo)

  -- ---- begins

  begun_sound : (s : State) (b size : ℕ) → (kind : Kind) → (z : MemoryBlock) → slice_get s.world.memory b ≡ Some z
      → same_kind z.kind kind ≡ true → s.top.instance ≡ None
      → ((frame : Value) → s.top.mode ≡ Mode.GivenRamp frame → same_kind kind Kind.Stack ≡ true) → Sound s
      → Sound (begun_in s b size)
  begun_sound s b size kind z there same alone mode h = record {
    blocks = blocks_begun s.world.memory s.instances s.top.func b size h.blocks;
    acts = (
      record {
        known = λ i is. known i is;
        coroutine = λ i x is at. its_own i x is at;
        own = h.acts.0.own;
        given = λ frame i x is at to. given frame i x is at to;
      },
      acts_on g s.world.memory (with_block s.world.memory b (owned_to size)) s.instances
          (s.instances ++ new_instance s.top.func b 0 ∷ []) stacks (go_more s.instances (new_instance s.top.func b 0))
          s.below h.acts.1,
    );
  }
    where
      stacks : (c : ℕ) → is_stack_block s.world.memory c ≡ true
          → is_stack_block (with_block s.world.memory b (owned_to size)) c ≡ true
      stacks c is = stack_still s.world.memory b size c ∙ is

      known : (i : ℕ) → Some (length s.instances) ≡ Some i
          → i < length (s.instances ++ new_instance s.top.func b 0 ∷ [])
      known i is =
          let same : length s.instances ≡ i = cc in
          let long = (go_more s.instances (new_instance s.top.func b 0)) in
          get_within (s.instances ++ new_instance s.top.func b 0 ∷ []) i (new_instance s.top.func b 0)
          (ap (slice_get (s.instances ++ new_instance s.top.func b 0 ∷ [])) (sym same)
          ∙ get_last s.instances (new_instance s.top.func b 0))

      its_own : (i : ℕ) (x : Instance) → Some (length s.instances) ≡ Some i
          → slice_get (s.instances ++ new_instance s.top.func b 0 ∷ []) i ≡ Some x → x.coroutine ≡ s.top.func
      its_own i x is at =
          let number : length s.instances ≡ i = cc in
          let one : new_instance s.top.func b 0 ≡ x
          = same_some (new_instance s.top.func b 0) x (sym (get_last s.instances (new_instance s.top.func b 0))
          ∙ (ap (slice_get (s.instances ++ new_instance s.top.func b 0 ∷ [])) number ∙ at)) in
          ap (λ (q : Instance). q.coroutine) (sym one)

      kinds : (k q : Kind) → same_kind k q ≡ true → same_kind q Kind.Stack ≡ true → same_kind k Kind.Stack ≡ true
      kinds Kind.Stack q e f = refl
      kinds Kind.Allocator Kind.Stack e f = absurd (cc)
      kinds Kind.Allocator Kind.Allocator e f = absurd (cc)
      kinds Kind.Allocator Kind.Slot e f = absurd (cc)
      kinds Kind.Allocator Kind.Global e f = absurd (cc)
      kinds Kind.Allocator Kind.Constant e f = absurd (cc)
      kinds Kind.Slot Kind.Stack e f = absurd (cc)
      kinds Kind.Slot Kind.Allocator e f = absurd (cc)
      kinds Kind.Slot Kind.Slot e f = absurd (cc)
      kinds Kind.Slot Kind.Global e f = absurd (cc)
      kinds Kind.Slot Kind.Constant e f = absurd (cc)
      kinds Kind.Global Kind.Stack e f = absurd (cc)
      kinds Kind.Global Kind.Allocator e f = absurd (cc)
      kinds Kind.Global Kind.Slot e f = absurd (cc)
      kinds Kind.Global Kind.Global e f = absurd (cc)
      kinds Kind.Global Kind.Constant e f = absurd (cc)
      kinds Kind.Constant Kind.Stack e f = absurd (cc)
      kinds Kind.Constant Kind.Allocator e f = absurd (cc)
      kinds Kind.Constant Kind.Slot e f = absurd (cc)
      kinds Kind.Constant Kind.Global e f = absurd (cc)
      kinds Kind.Constant Kind.Constant e f = absurd (cc)

      given : (frame : Value) (i : ℕ) (x : Instance) → s.top.mode ≡ Mode.GivenRamp frame
          → Some (length s.instances) ≡ Some i
          → slice_get (s.instances ++ new_instance s.top.func b 0 ∷ []) i ≡ Some x
          → is_stack_block (with_block s.world.memory b (owned_to size)) x.block ≡ true
      given frame i x is at to =
          let number : length s.instances ≡ i = cc in
          let one : Some (new_instance s.top.func b 0) ≡ Some x
          = sym (get_last s.instances (new_instance s.top.func b 0))
          ∙ (ap (slice_get (s.instances ++ new_instance s.top.func b 0 ∷ [])) number ∙ to) in
          let block : b ≡ x.block = block_of_one (new_instance s.top.func b 0) x one in
          ap (is_stack_block (with_block s.world.memory b (owned_to size))) (sym block)
          ∙ (stack_still s.world.memory b size b
          ∙ (ap (λ (o : Option MemoryBlock). option_map_or (λ (y : MemoryBlock). same_kind y.kind Kind.Stack) o false)
          there ∙ kinds z.kind kind same (mode frame is)))
        where
          block_of_one : (y x : Instance) → Some y ≡ Some x → y.block ≡ x.block
          block_of_one y x e = let same : y ≡ x = cc in ap (λ (q : Instance). q.block) same

  begin_at_sound : (s : State) (mem : Value) (kind : Kind) → s.top.instance ≡ None
      → ((frame : Value) → s.top.mode ≡ Mode.GivenRamp frame → same_kind kind Kind.Stack ≡ true) → Sound s
      → Keeps (begin_at g.given s mem kind)
  begin_at_sound s (Value.Ptr (Pointer.At b o)) kind alone mode h =
      by_bits ((o.bits == 0)) refl
    where
      by_block : (z : Option MemoryBlock) → slice_get s.world.memory b ≡ z → (c : Bool)
          → may_be_owned kind (own_frame g.given s).size z ≡ c
          → Keeps (and_then (check c Cause.Begin
          (Ok (with_block s.world.memory b (owned_to (own_frame g.given s).size))))
          (λ (memory : List MemoryBlock). Ok (begun g.given (with_memory s memory) b 0)))
      by_block z ez false ec = tt
      by_block None ez true ec = absurd (cc)
      by_block (Some z) ez true ec =
          subst Sound (sym (begun_is g.given s b kind h.acts.0.own))
          (begun_sound s b (own_frame g.given s).size kind z ez (free_block kind (own_frame g.given s).size z ec).made
          alone mode h)

      by_bits : (t : Bool) → (o.bits == 0) ≡ t
          → Keeps (and_then (check (t && may_be_owned kind (own_frame g.given s).size (slice_get s.world.memory b))
          Cause.Begin (Ok (with_block s.world.memory b (owned_to (own_frame g.given s).size))))
          (λ (memory : List MemoryBlock). Ok (begun g.given (with_memory s memory) b 0)))
      by_bits false et = tt
      by_bits true et =
          by_block (slice_get s.world.memory b) refl
          (may_be_owned kind (own_frame g.given s).size (slice_get s.world.memory b)) refl
  begin_at_sound s (Value.Ptr Pointer.Null) kind alone mode h = tt
  begin_at_sound s (Value.Ptr (Pointer.Func f)) kind alone mode h = tt
  begin_at_sound s Value.Poison kind alone mode h = tt
  begin_at_sound s (Value.Int n) kind alone mode h = tt

  begin_sound : (s : State) (result : Option ℕ) (mem : Value)
      → ((frame : Value) → s.top.mode ≡ Mode.GivenRamp frame → ⊥) → Sound s → Keeps (begin g.given s result mem)
  begin_sound s result mem mode h = by s.top.instance refl
    where
      by : (o : Option ℕ) → s.top.instance ≡ o
          → Keeps (and_then (ok_if (is_none o) Cause.Begin s) (λ (s : State).
          and_then (begin_at g.given s mem Kind.Allocator) (λ (s : State). Ok (gives s result mem))))
      by None eo =
          then_keeps (begin_at g.given s mem Kind.Allocator) (λ (z : State). gives z result mem)
          (begin_at_sound s mem Kind.Allocator eo (λ frame is. absurd (mode frame is)) h)
          (λ z k. gives_sound z result mem k)
      by (Some i) eo = tt

  -- no frame has room
  no_room : (offset size : ℕ) (o : Option (ℕ × Instance)) → has_room g offset size o ≡ false
  no_room offset size None = refl
  no_room offset size (Some (i, x)) =
      and_right (not (is_over x)) _ (none (layout_of g.layouts x.coroutine).fields (nests x.coroutine))
    where
      none : (fields : List PlacedField) → Each (λ (y : PlacedField). is_frame_kind y.kind ≡ false) fields
          → list_any (is_room_at x.start offset size) fields ≡ false
      none [] h = refl
      none (y ∷ fields) h =
          (λ j. (h.0 j && (x.start + y.offset == offset) && (y.size == size))
          || list_any (is_room_at x.start offset size) fields) ∙ none fields h.1

  given_at_sound : (s : State) (frame : Value) → s.top.instance ≡ None → Sound s → Keeps (begin_given_at g s frame)
  given_at_sound s (Value.Ptr (Pointer.At b o)) alone h =
      by (has_room g o.bits (own_frame g.given s).size (frame_around g s.instances b o.bits))
      (no_room o.bits (own_frame g.given s).size (frame_around g s.instances b o.bits))
    where
      in_block : (t : Bool) → Keeps (and_then (ok_if t Cause.Begin s)
          (λ (z : State). begin_at g.given z (Value.Ptr (Pointer.At b o)) Kind.Stack))
      in_block true = begin_at_sound s (Value.Ptr (Pointer.At b o)) Kind.Stack alone (λ frame is. refl) h
      in_block false = tt

      by : (t : Bool) → t ≡ false → Keeps (if t then begin_in_frame g s b o else begin_in_block g s b o)
      by true e = absurd (cc)
      by false e = in_block ((o.bits == 0) && has_size s.world.memory b (own_frame g.given s).size)
  given_at_sound s (Value.Ptr Pointer.Null) alone h = tt
  given_at_sound s (Value.Ptr (Pointer.Func f)) alone h = tt
  given_at_sound s Value.Poison alone h = tt
  given_at_sound s (Value.Int n) alone h = tt

  begin_given_sound : (s : State) (result : Option ℕ) (frame : Value) → Sound s → Keeps (begin_given g s result frame)
  begin_given_sound s result frame h = by s.top.instance refl (are_finished_at s.instances frame)
    where
      by : (o : Option ℕ) → s.top.instance ≡ o → (t : Bool)
          → Keeps (and_then (ok_if (is_none o && t) Cause.Begin s) (λ (s : State).
          and_then (begin_given_at g s frame) (λ (s : State). Ok (gives s result frame))))
      by None eo true =
          then_keeps (begin_given_at g s frame) (λ (z : State). gives z result frame)
          (given_at_sound s frame eo h) (λ z k. gives_sound z result frame k)
      by None eo false = tt
      by (Some i) eo t = tt

  framed_begin_sound : (s : State) (result : Option ℕ) (mem : Value) (mode : Mode) → s.top.mode ≡ mode → Sound s
      → Keeps (framed_begin g s result mem mode)
  framed_begin_sound s result mem (Mode.GivenRamp frame) is h = begin_given_sound s result frame h
  framed_begin_sound s result mem Mode.Plain is h = begin_sound s result mem (λ frame e. other frame (sym is ∙ e)) h
    where
      other : (frame : Value) → Mode.Plain ≡ Mode.GivenRamp frame → ⊥
      other frame e = cc
  framed_begin_sound s result mem Mode.Ramp is h = begin_sound s result mem (λ frame e. other frame (sym is ∙ e)) h
    where
      other : (frame : Value) → Mode.Ramp ≡ Mode.GivenRamp frame → ⊥
      other frame e = cc
  framed_begin_sound s result mem Mode.Resumed is h =
      begin_sound s result mem (λ frame e. other frame (sym is ∙ e)) h
    where
      other : (frame : Value) → Mode.Resumed ≡ Mode.GivenRamp frame → ⊥
      other frame e = cc
  framed_begin_sound s result mem (Mode.Entering from label) is h =
      begin_sound s result mem (λ frame e. other frame (sym is ∙ e)) h
    where
      other : (frame : Value) → Mode.Entering from label ≡ Mode.GivenRamp frame → ⊥
      other frame e = cc

  -- ---- saves, suspends and frees

  save_for_sound : (s : State) (p q : Point) → Sound s → Keeps (save_for s p q)
  save_for_sound s p q h = by (own_instance s) refl
    where
      by : (o : Option (ℕ × Instance)) → own_instance s ≡ o
          → Keeps (and_then (found Cause.State o) (λ (i, x). ok_if (not x.freed) Cause.State
          (with_left
          (with_instance s i (record x {
            status = Status.Suspended q s.top.values;
            last_save = Some (record { depth = length s.below; save = p });
          }))
          true)))
      by None eo = tt
      by (Some (i, x)) eo =
          if_keeps (not x.freed) Cause.State _
          (left_sound (with_instance s i (record x {
            status = Status.Suspended q s.top.values;
            last_save = Some (record { depth = length s.below; save = p });
          })) true
          (instance_sound s i x (record x {
            status = Status.Suspended q s.top.values;
            last_save = Some (record { depth = length s.below; save = p });
          }) (own_number s i x eo).1 refl refl refl (λ goes. refl) h))

  save_sound : (s : State) → Sound s → Keeps (save g.given s)
  save_sound s h = by (suspend_of (function_of g.given s) (point_of s))
    where
      by : (o : Option Point) → Keeps (and_then (found Cause.State o) (λ (q : Point).
          and_then (save_for s (point_of s) q) (λ (z : State). Ok (next z))))
      by None = tt
      by (Some q) = then_keeps (save_for s (point_of s) q) next (save_for_sound s (point_of s) q h) next_sound

  before_sound : (s : State) (x : Operand) → Sound s → Keeps (save_before s x)
  before_sound s Operand.None h = save_for_sound s (point_of s) (point_of s) h
  before_sound s (Operand.Local v) h = h
  before_sound s (Operand.Global name) h = h
  before_sound s (Operand.Number z) h = h
  before_sound s Operand.True h = h
  before_sound s Operand.False h = h
  before_sound s Operand.Null h = h
  before_sound s Operand.Poison h = h

  suspend_sound : (s : State) (result : Option ℕ) (x : Operand) → Sound s → Keeps (suspend s result x)
  suspend_sound s result x h =
      then_keeps (save_before s x) (λ (z : State). gives z result (integer 8 (negsuc 0))) (before_sound s x h)
      (λ z k. gives_sound z result (integer 8 (negsuc 0)) k)

  release_sound : (s : State) → Sound s → Sound (release s)
  release_sound s h = by (own_instance s) refl
    where
      by : (o : Option (ℕ × Instance)) → own_instance s ≡ o
          → Sound (change_own s (λ (x : Instance). record x { released = true }) o)
      by None eo = h
      by (Some (i, x)) eo =
          instance_sound s i x (record x { released = true }) (own_number s i x eo).1 refl refl refl (λ goes. goes) h

  -- ---- returns and ends

  below_sound : (s : State) (a : Activation) (below : List Activation) → s.below ≡ a ∷ below → (v : Option Value)
      → Sound s → Sound (record s { top = given_back a s.top.result v; below = below })
  below_sound s a below is v h =
      let acts : Each (IsSoundAct g s.world.memory s.instances) (a ∷ below)
      = subst (λ (bs : List Activation). Each (IsSoundAct g s.world.memory s.instances) bs) is h.acts.1 in
      record {
        blocks = h.blocks;
        acts = (
          act_same g s.world.memory s.instances a (given_back a s.top.result v) refl refl refl refl acts.0,
          acts.1,
        );
      }

  pop_sound : (s : State) (v : Option Value) (below : List Activation) → s.below ≡ below → Sound s
      → Keeps (pop s v below)
  pop_sound s v [] is h = by (outcome_of v)
    where
      by : (r : Result Outcome Cause) → Keeps (and_then r (λ (outcome : Outcome). Ok (record s { outcome = outcome })))
      by (Err cause) = tt
      by (Ok outcome) = record { blocks = h.blocks; acts = h.acts }
  pop_sound s v (a ∷ below) is h = below_sound s a below is v h

  returned_sound : (s : State) → Sound s → Sound (returned s)
  returned_sound s h =
      let z = memory_sound s (without_slots s.world.memory s.top.slots) (slots_age s.world.memory s.top.slots) h in
      with_top (with_memory s (without_slots s.world.memory s.top.slots)) (record s.top { slots = [] })
      (record { known = z.acts.0.known; coroutine = z.acts.0.coroutine; own = tt; given = z.acts.0.given }) z

  return_sound : (s : State) (v : Option Value) → Sound s → Keeps (return s v)
  return_sound s v h = pop_sound (returned s) v s.below refl (returned_sound s h)

  finish_sound : (s : State) → Sound s → Sound (framed_finish s)
  finish_sound s h = by (own_instance s) refl
    where
      by : (o : Option (ℕ × Instance)) → own_instance s ≡ o
          → Sound (disown_given (with_memory (change_own s (λ (x : Instance). record x { status = Status.Finished }) o)
          (without_slots s.world.memory (slots_of o))) o)
      by None eo = h
      by (Some (i, x)) eo = on (is_stack_block (without_slots s.world.memory x.slots) x.block && (x.start == 0)) refl
        where
          age : Ages s.world.memory (without_slots s.world.memory x.slots)
          age = slots_age s.world.memory x.slots

          there : slice_get s.instances i ≡ Some x
          there = (own_number s i x eo).1

          on : (t : Bool) → (is_stack_block (without_slots s.world.memory x.slots) x.block && (x.start == 0)) ≡ t
              → Sound (if t
              then with_memory (with_memory (with_instance s i (record x { status = Status.Finished }))
              (without_slots s.world.memory x.slots)) (disown (without_slots s.world.memory x.slots) x.block)
              else with_memory (with_instance s i (record x { status = Status.Finished }))
              (without_slots s.world.memory x.slots))
          on true is = record {
            blocks = blocks_finished s.world.memory (without_slots s.world.memory x.slots) s.instances i x there
                h.blocks age true is;
            acts = acts_on g s.world.memory (disown (without_slots s.world.memory x.slots) x.block) s.instances
                (slice_set s.instances i (record x { status = Status.Finished }))
                (after_stacks s.world.memory (without_slots s.world.memory x.slots) s.instances i x there h.blocks age
                true)
                (go_set s.instances i x (record x { status = Status.Finished }) there refl refl) (s.top ∷ s.below)
                h.acts;
          }
          on false is = record {
            blocks = blocks_finished s.world.memory (without_slots s.world.memory x.slots) s.instances i x there
                h.blocks age false is;
            acts = acts_on g s.world.memory (without_slots s.world.memory x.slots) s.instances
                (slice_set s.instances i (record x { status = Status.Finished })) age.stacks
                (go_set s.instances i x (record x { status = Status.Finished }) there refl refl) (s.top ∷ s.below)
                h.acts;
          }

  ended_sound : (s : State) (result : Option ℕ) (mode : Mode) → Sound s → Keeps (after_end s result mode)
  ended_sound s result Mode.Resumed h = return_sound s None h
  ended_sound s result Mode.Plain h = gives_sound s result (truth_value false) h
  ended_sound s result Mode.Ramp h = gives_sound s result (truth_value false) h
  ended_sound s result (Mode.GivenRamp frame) h = gives_sound s result (truth_value false) h
  ended_sound s result (Mode.Entering from label) h = gives_sound s result (truth_value false) h

  end_sound : (s : State) (result : Option ℕ) → Sound s → Keeps (end_of s framed_finish result)
  end_sound s result h =
      ended_sound (if s.top.has_left then s else framed_finish s) result s.top.mode (by s.top.has_left)
    where
      by : (t : Bool) → Sound (if t then s else framed_finish s)
      by true = h
      by false = finish_sound s h

  -- ---- resume, destroy, done, promise

  woken_sound : (s : State) (y : Sleeper) (label : ℕ) → slice_get s.instances y.number ≡ Some y.instance → Sound s
      → Sound (continue_framed g s y.number y.instance y.suspend y.values label)
  woken_sound s y label there h =
      let running = instance_sound s y.number y.instance (record y.instance { status = Status.Running }) there refl
      refl refl
      (λ goes. refl) h in
      after_sound
      (push (with_status s y.number y.instance Status.Running) (resumed y.number y.instance y.suspend (reentry_values
      (function_at g.given.code y.instance.coroutine) (frame_address_of y.instance))))
      y.suspend.block label (alloca_from (function_at g.given.code y.instance.coroutine) 0)
      (push_sound (with_status s y.number y.instance Status.Running)
      (resumed y.number y.instance y.suspend (reentry_values (function_at g.given.code y.instance.coroutine)
      (frame_address_of y.instance)))
      (record {
        known = λ i is. in_list i is;
        coroutine = λ i x is at. its_own i x is at;
        own = tt;
        given = λ frame i x is at to. absurd (cc);
      }) running)
    where
      its_own : (i : ℕ) (x : Instance) → Some y.number ≡ Some i
          → slice_get (slice_set s.instances y.number (record y.instance { status = Status.Running })) i ≡ Some x
          → x.coroutine ≡ y.instance.coroutine
      its_own i x is at =
          let number : y.number ≡ i = cc in
          let one : record y.instance { status = Status.Running } ≡ x
          = same_some (record y.instance { status = Status.Running }) x
          (sym (new_there s.instances y.number y.instance (record y.instance { status = Status.Running }) there)
          ∙ (ap (slice_get (slice_set s.instances y.number (record y.instance { status = Status.Running }))) number
          ∙ at)) in
          ap (λ (q : Instance). q.coroutine) (sym one)

      in_list : (i : ℕ) → Some y.number ≡ Some i
          → i < length (slice_set s.instances y.number (record y.instance { status = Status.Running }))
      in_list i is =
          let same : y.number ≡ i = cc in
          let lt = get_within s.instances y.number y.instance there in
          let long = set_length s.instances y.number (record y.instance { status = Status.Running }) in
          omega (arith, same, lt, long)

  resume_sound : (s : State) (p : Value) → Sound s → Keeps (resume g.given (continue_framed g) s p)
  unfolding Woken
  resume_sound s p h = by (sleeper_at s p) (asleep s p)
    where
      by : (r : Result Sleeper Cause) → Woken s r → Keeps (and_then r (λ (y : Sleeper).
          ok_if (not (is_final (function_at g.given.code y.instance.coroutine) y.suspend)) Cause.State
          (continue_framed g s y.number y.instance y.suspend y.values
          (resume_label (function_at g.given.code y.instance.coroutine) y.suspend))))
      by (Err cause) k = tt
      by (Ok y) k =
          if_keeps (not (is_final (function_at g.given.code y.instance.coroutine) y.suspend)) Cause.State _
          (woken_sound s y (resume_label (function_at g.given.code y.instance.coroutine) y.suspend) k.there h)

  destroy_sound : (s : State) (p : Value) → Sound s → Keeps (destroy g.given (continue_framed g) s p)
  unfolding Woken
  destroy_sound s p h = by (sleeper_at s p) (asleep s p)
    where
      by : (r : Result Sleeper Cause) → Woken s r → Keeps (and_then r (λ (y : Sleeper).
          Ok (continue_framed g s y.number y.instance y.suspend y.values
          (destroy_label (function_at g.given.code y.instance.coroutine) y.suspend))))
      by (Err cause) k = tt
      by (Ok y) k = woken_sound s y (destroy_label (function_at g.given.code y.instance.coroutine) y.suspend) k.there h

  done_sound : (s : State) (result : Option ℕ) (p : Value) → Sound s → Keeps (done_at g.given s result p)
  done_sound s result p h = by (sleeper_at s p)
    where
      by : (r : Result Sleeper Cause) → Keeps (and_then r (λ (y : Sleeper).
          ok_if (has_final (function_at g.given.code y.instance.coroutine)) Cause.State
          (gives s result (truth_value (is_final (function_at g.given.code y.instance.coroutine) y.suspend)))))
      by (Err cause) = tt
      by (Ok y) =
          if_keeps (has_final (function_at g.given.code y.instance.coroutine)) Cause.State _
          (gives_sound s result (truth_value (is_final (function_at g.given.code y.instance.coroutine) y.suspend)) h)

  promise_sound : (s : State) (result : Option ℕ) (r : Result Value Cause) → Sound s
      → Keeps (and_then r (λ (v : Value). Ok (gives s result v)))
  promise_sound s result (Err cause) h = tt
  promise_sound s result (Ok v) h = gives_sound s result v h

  coro_sound : (s : State) (i : Intrinsic) (args : List Arg) (vs : List Value) (result : Option ℕ) → Sound s
      → Keeps (framed_coro g s i args vs result)
  coro_sound s Intrinsic.CoroId args vs result h = next_sound s h
  coro_sound s Intrinsic.CoroSizeI32 args vs result h = gives_sound s result _ h
  coro_sound s Intrinsic.CoroSizeI64 args vs result h = gives_sound s result _ h
  coro_sound s Intrinsic.CoroAlignI32 args vs result h = gives_sound s result _ h
  coro_sound s Intrinsic.CoroAlignI64 args vs result h = gives_sound s result _ h
  coro_sound s Intrinsic.CoroAlloc args vs result h = gives_sound s result _ h
  coro_sound s Intrinsic.CoroBegin args vs result h = framed_begin_sound s result (nth vs 1) s.top.mode refl h
  coro_sound s Intrinsic.CoroFree args vs result h = gives_sound (release s) result _ (release_sound s h)
  coro_sound s Intrinsic.CoroFrame args vs result h = gives_sound s result _ h
  coro_sound s Intrinsic.CoroSave args vs result h = save_sound s h
  coro_sound s Intrinsic.CoroSuspend args vs result h = suspend_sound s result (operand_at args 0) h
  coro_sound s Intrinsic.CoroEnd args vs result h = end_sound s result h
  coro_sound s Intrinsic.CoroResume args vs result h = resume_sound s (nth vs 0) h
  coro_sound s Intrinsic.CoroDestroy args vs result h = destroy_sound s (nth vs 0) h
  coro_sound s Intrinsic.CoroDone args vs result h = done_sound s result (nth vs 0) h
  coro_sound s Intrinsic.CoroPromise args vs result h =
      promise_sound s result (framed_promise g s (nth vs 0) (operand_at args 2)) h
  coro_sound s Intrinsic.LifetimeStart args vs result h = next_sound s h
  coro_sound s Intrinsic.LifetimeEnd args vs result h = next_sound s h
  coro_sound s Intrinsic.MemcpyI64 args vs result h = next_sound s h
  coro_sound s Intrinsic.MemcpyI32 args vs result h = next_sound s h

  -- ---- deallocation and branches

  let_go_sound : (s : State) (i : ℕ) (x : Instance) → slice_get s.instances i ≡ Some x → Sound s
      → Sound (let_go s i x)
  let_go_sound s i x there h =
      memory_sound (with_instance s i (record x { freed = true }))
      (disown (without_slots s.world.memory x.slots) x.block)
      (ages_then s.world.memory (without_slots s.world.memory x.slots) _ (slots_age s.world.memory x.slots)
      (ages_block (without_slots s.world.memory x.slots) x.block disowned disown_keeps))
      (instance_sound s i x (record x { freed = true }) there refl refl refl (λ goes. goes) h)

  if_let_go_sound : (s : State) (p : Value) (o : Option (ℕ × Instance)) → instance_at s.instances p ≡ o → Sound s
      → Sound (if_let_go s o)
  if_let_go_sound s p None eo h = h
  if_let_go_sound s p (Some (i, x)) eo h = by (may_be_freed x)
    where
      by : (t : Bool) → Sound (if t then let_go s i x else s)
      by true = let_go_sound s i x (found_there s p i x eo) h
      by false = h

  deallocated_sound : (s : State) (p : Value) → Sound s
      → Keeps (and_then (deallocated s.world.memory p)
      (λ (memory : List MemoryBlock). Ok (next (with_memory s memory))))
  deallocated_sound s p h = by (deallocated s.world.memory p) (kill_ages s.world.memory p)
    where
      by : (r : Result (List MemoryBlock) Cause) → AgesTo s.world.memory r
          → Keeps (and_then r (λ (memory : List MemoryBlock). Ok (next (with_memory s memory))))
      by (Err cause) age = tt
      by (Ok n) age = next_sound (with_memory s n) (memory_sound s n age h)

  deallocate_sound : (s : State) (p : Value) → Sound s → Keeps (deallocate s p)
  deallocate_sound s p h =
      deallocated_sound (if_let_go s (instance_at s.instances p)) p
      (if_let_go_sound s p (instance_at s.instances p) refl h)

  leave_sound : (s : State) (label : ℕ) (ws : List Window) → Sound s → Keeps (leave g.given s label ws)
  leave_sound s label ws h = by (own_instance s) refl
    where
      by : (o : Option (ℕ × Instance)) → own_instance s ≡ o
          → Keeps (and_then (found Cause.State o) (λ (i, x).
          ok_if (list_all (may_leave (length s.below) x) ws) Cause.State
          (enter_block g.given (with_left (with_status s i x Status.Running) false) label)))
      by None eo = tt
      by (Some (i, x)) eo =
          if_keeps (list_all (may_leave (length s.below) x) ws) Cause.State _
          (enter_sound (with_left (with_status s i x Status.Running) false) label
          (left_sound (with_status s i x Status.Running) false
          (instance_sound s i x (record x { status = Status.Running }) (own_number s i x eo).1 refl refl
          refl (λ goes. refl) h)))

  branch_sound : (s : State) (label : ℕ) (ws : List Window) → Sound s → Keeps (branch_leaving g.given s label ws)
  branch_sound s label [] h = enter_sound s label h
  branch_sound s label (w ∷ ws) h = leave_sound s label (w ∷ ws) h

  -- ---- steps

  settled_sound : (s : State) (w : Work) → Ages s.world.memory w.world.memory → Sound s → Sound (settled s w)
  settled_sound s w age h =
      let z = memory_sound s w.world.memory age h in
      record {
        blocks = z.blocks;
        acts = (
          act_same g w.world.memory s.instances s.top (settled s w).top refl refl refl refl z.acts.0,
          z.acts.1,
        );
      }

  act_sound : (s : State) (a : Action)
      → AgesBy s.world.memory (λ (z : Slot). is_among (facts_at g.given.facts s.top.func).ramp_slots z ≡ true) a
      → Sound s → Keeps (framed_act g s a)
  act_sound s (Done w) age h = settled_sound s w age h
  act_sound s (NewSlot w z) age h =
      framed_slot_sound (settled s w) z s.top.mode age.1 (settled_sound s w age.0 h)
  act_sound s (Enter func args result must_tail) age h =
      push_sound s (called g.given.code func args result (mode_of (function_at g.given.code func)))
      (called_sound s func args result (mode_of (function_at g.given.code func))) h
  act_sound s (Coro i args result) age h = coro_sound s i args (arg_values g.given.code s.top.values args) result h
  act_sound s (Deallocate p) age h = deallocate_sound s p h
  act_sound s (GoTo label) age h = branch_sound s label (left_windows g.given s label) h
  act_sound s (Return v) age h = return_sound s v h
  act_sound s (Stuck cause) age h = tt

  module _ (s : State) (h : Sound s) where
    abbrev here : Fetched
    here = fetch (function_of g.given s) s.top.block s.top.at

    acted : (x : Fetched) → here ≡ x
        → Keeps (framed_act g s (action_of (framed_context g s) (work_of s) x))
    acted x is =
        act_sound s (action_of (framed_context g s) (work_of s) x)
        (actions_age (framed_context g s) (work_of s)
        (λ (z : Slot). is_among (facts_at g.given.facts s.top.func).ramp_slots z ≡ true) x
        (λ name align ty at. allocas s.top.func s.top.block s.top.at name align (length s.world.memory) ty (is ∙ at))) h

    named : (x : Fetched) → here ≡ x → (result : Option ℕ) (vs : List Value) (o : Option ℕ)
        → Keeps (unwrap_or (enter_given g s result vs o)
        (framed_act g s (action_of (framed_context g s) (work_of s) x)))
    named x is result vs None = acted x is
    named x is result vs (Some func) =
        push_sound s (called g.given.code func vs result (Mode.GivenRamp (last_value vs)))
        (called_sound s func vs result (Mode.GivenRamp (last_value vs))) h

    next_keeps : (x : Fetched) → here ≡ x → Keeps (framed_next g s x)
    next_keeps Nowhere is = acted Nowhere is
    next_keeps (AtTerm t) is = acted (AtTerm t) is
    next_keeps (AtInstr (Instr.Call result must_tail ty (Callee.Named name) args)) is =
        named (AtInstr (Instr.Call result must_tail ty (Callee.Named name) args)) is result
        (arg_values g.given.code s.top.values args) (given_ramp g.given.code name)
    next_keeps (AtInstr (Instr.Call result must_tail ty (Callee.Allocator a) args)) is =
        acted (AtInstr (Instr.Call result must_tail ty (Callee.Allocator a) args)) is
    next_keeps (AtInstr (Instr.Call result must_tail ty (Callee.Intrinsic i) args)) is =
        acted (AtInstr (Instr.Call result must_tail ty (Callee.Intrinsic i) args)) is
    next_keeps (AtInstr (Instr.Call result must_tail ty (Callee.Local v) args)) is =
        acted (AtInstr (Instr.Call result must_tail ty (Callee.Local v) args)) is
    next_keeps (AtInstr (Instr.Binary name op flags ty a b)) is = acted (AtInstr (Instr.Binary name op flags ty a b)) is
    next_keeps (AtInstr (Instr.Icmp name pred ty a b)) is = acted (AtInstr (Instr.Icmp name pred ty a b)) is
    next_keeps (AtInstr (Instr.Select name x a b)) is = acted (AtInstr (Instr.Select name x a b)) is
    next_keeps (AtInstr (Instr.Cast name op nneg arg to)) is = acted (AtInstr (Instr.Cast name op nneg arg to)) is
    next_keeps (AtInstr (Instr.Alloca name ty align)) is = acted (AtInstr (Instr.Alloca name ty align)) is
    next_keeps (AtInstr (Instr.Load name ty p align)) is = acted (AtInstr (Instr.Load name ty p align)) is
    next_keeps (AtInstr (Instr.Store arg p align)) is = acted (AtInstr (Instr.Store arg p align)) is
    next_keeps (AtInstr (Instr.Gep name inbounds ty base indices)) is =
        acted (AtInstr (Instr.Gep name inbounds ty base indices)) is

    undefined_keeps : (r : Result State Cause) → Keeps r → Sound (or_undefined g.given s r)
    undefined_keeps (Err cause) k = record { blocks = h.blocks; acts = h.acts }
    undefined_keeps (Ok u) k = k

    advance_sound : (o : Outcome) → Sound (framed_advance g s o)
    advance_sound Outcome.Running = undefined_keeps (framed_next g s here) (next_keeps here refl)
    advance_sound (Outcome.Returned v) = h
    advance_sound (Outcome.Undefined cause place) = h

    pub step_sound : Sound (framed_step g s)
    step_sound = advance_sound s.outcome

  -- ---- runs

  runs_sound : (n : ℕ) (s : State) → Sound s → Sound (iterate (framed_step g) n s)
  runs_sound zero s h = h
  runs_sound (suc n) s h = runs_sound n (framed_step g s) (step_sound s h)

  unowned_first : (entry : ℕ) (args : List Word) → Sound (first_state g.given.code entry args)
  unowned_first entry args = record {
    blocks = record {
      starts = λ i x at. absurd (cc);
      owners = λ b k z at kind own. absurd (none g.given.code.globals b k z at own);
    };
    acts = (
      record {
        known = λ i is. absurd (cc);
        coroutine = λ i x is there. absurd (cc);
        own = tt;
        given = λ frame i x is at there. absurd (cc);
      },
      tt,
    );
  }
    where
      none : (gs : List GlobalItem) (b k : ℕ) (z : MemoryBlock)
          → slice_get (map (global_block g.given.code) gs) b ≡ Some z → z.owned ≡ Some k → ⊥
      none gs b k z at own = no_owner z.owned (unowned g.given.code gs b z at) own
        where
          no_owner : (o : Option ℕ) → o ≡ None → o ≡ Some k → ⊥
          no_owner None e f = cc
          no_owner (Some j) e f = cc

  pub states_sound : (entry : ℕ) (args : List Word) (n : ℕ) → Sound (framed_state_at g entry args n)
  states_sound entry args n = runs_sound n (first_state g.given.code entry args) (unowned_first entry args)
