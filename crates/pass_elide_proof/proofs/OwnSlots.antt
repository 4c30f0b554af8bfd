-- Slots of activations have blocks of their own in each state of a framed run, also where calls give frames.
use Rattle.std.proofs.Common.{◌≡◌, ◌≤◌, ◌+◌, ◌∙◌, ◌∷◌, [], ap, arith, Bool, cond, Err, false, List, not, Ok, Option, refl, Result, subst, suc, sym, true, zero, ℕ, length, if◌then◌else◌, append-nil}
use Rattle.std.specs.Prelude.{filter, is_none, negsuc, None, Some, option_and_then, option_map, slice_get, unwrap_or, ◌&&◌, ◌==◌}
use Rattle.pass_elide_proof.proofs.AllocaBlocks.{ActionKeeps, Carries, CarriesAll, action_keeps, disown_carries, kill_carries, own_carries}
use Rattle.pass_elide_proof.proofs.Killing.{IsSlotOf, spared}
use Rattle.pass_elide_proof.specs.OwnSlots.{CountsSlots, HaveNoSlots}
use Rattle.pass_elide_proof.specs.Returning.{HaveOwnSlots, IsAllocaBlock}
use Rattle.pass_proofs.proofs.ir_laws.facts.Lists.{get_within}
use Rattle.pass_proofs.proofs.ir_laws.facts.Truth.{equal_numbers, itself}
use Rattle.pass_proofs.specs.ir_base.declared.cause.Cause.{Cause}
use Rattle.pass_proofs.specs.ir_base.declared.outcome.Outcome.{Outcome}
use Rattle.pass_proofs.specs.ir_base.declared.outcome.Word.{Word}
use Rattle.pass_proofs.specs.ir_model.Names.{function_at}
use Rattle.pass_proofs.specs.ir_model.declared.instr.Instr.{Instr}
use Rattle.pass_proofs.specs.ir_model.declared.module.Module.{Module}
use Rattle.pass_proofs.specs.ir_model.declared.operand.Arg.{Arg}
use Rattle.pass_proofs.specs.ir_model.declared.operand.Callee.{Callee}
use Rattle.pass_proofs.specs.ir_model.declared.operand.Intrinsic.{Intrinsic}
use Rattle.pass_proofs.specs.ir_model.declared.operand.Operand.{Operand}
use Rattle.pass_proofs.specs.ir_paths.Windows.{destroy_label, operand_at, resume_label, suspend_of}
use Rattle.pass_proofs.specs.ir_paths.declared.point.Point.{Point}
use Rattle.pass_proofs.specs.ir_paths.declared.point.Window.{Window}
use Rattle.pass_proofs.specs.run_framed.Framed.{FramedGiven, alloca_from, are_finished_at, begin_given, begin_given_at, begin_in_block, begin_in_frame, continue_framed, disown_given, enter_after, enter_given, frame_around, framed_act, framed_advance, framed_begin, framed_context, framed_coro, framed_finish, framed_next, framed_promise, framed_slot, framed_step, given_ramp, has_room, has_size, is_stack_block, reentry_values}
use Rattle.pass_proofs.specs.run_memory.Memory.{disown, own}
use Rattle.pass_proofs.specs.run_memory.declared.block.Kind.{Kind}
use Rattle.pass_proofs.specs.run_memory.declared.block.MemoryBlock.{MemoryBlock}
use Rattle.pass_proofs.specs.run_memory.declared.pointer.Offset.{Offset}
use Rattle.pass_proofs.specs.run_memory.declared.pointer.Pointer.{Pointer}
use Rattle.pass_proofs.specs.run_memory.declared.pointer.Value.{Value}
use Rattle.pass_proofs.specs.run_source.Source.{Sleeper, after_end, begin, begin_at, begun, branch_leaving, change_own, deallocate, destroy, done_at, end_of, enter_block, finish, first_state, if_let_go, is_among, is_live_at, left_windows, let_go, may_be_freed, may_leave, pop, push, release, resume, resumed, return, returned, save, save_before, save_for, sleeper_at, slots_of, suspend}
use Rattle.pass_proofs.specs.run_source.State.{began_at, frame_address_of, function_of, gives, instance_at, last_from, next, numbered, or_undefined, own_facts, own_frame, own_instance, point_of, settled, with_instance, with_left, with_memory, with_slots, with_status, work_of}
use Rattle.pass_proofs.specs.run_source.declared.state.Activation.{Activation}
use Rattle.pass_proofs.specs.run_source.declared.state.Instance.{Instance}
use Rattle.pass_proofs.specs.run_source.declared.state.Mode.{Mode}
use Rattle.pass_proofs.specs.run_source.declared.state.State.{State}
use Rattle.pass_proofs.specs.run_source.declared.state.Status.{Status}
use Rattle.pass_proofs.specs.run_source_tables.Given.{has_final, is_final}
use Rattle.pass_proofs.specs.run_step.Results.{and_then, found, ok_if}
use Rattle.pass_proofs.specs.run_step.Step.{Action, AtInstr, AtTerm, Coro, Deallocate, Done, Enter, Fetched, GoTo, NewSlot, Nowhere, Return, Stuck, action_of, block_of, deallocated, fetch, outcome_of, without_slots}
use Rattle.pass_proofs.specs.run_step.Values.{Env, arg_values, integer, nth}
use Rattle.pass_proofs.specs.run_step.declared.world.Slot.{Slot}
use Rattle.std.specs.List.{list_all}
use Rattle.run_slots.specs.Slots.{once_if, times, times_on}

-- ---- counts

slot_counts : (zs : List Slot) (n : ℕ) → IsSlotOf zs n → 1 ≤ times n zs
slot_counts zs n h = on zs h.position h.there
  where
    on : (zs : List Slot) (k : ℕ) → slice_get zs k ≡ Some h.slot → 1 ≤ times n zs
    on [] k at = absurd (cc)
    on (z ∷ zs) zero at =
        let is : z ≡ h.slot = cc in
        let one : once_if (z.block == n) ≡ 1
        = (λ i. once_if ((is i).block == n)) ∙ ((λ i. once_if (h.same i == n)) ∙ ap once_if (itself n)) in
        omega (arith, one)
    on (z ∷ zs) (suc k) at = let rest = on zs k at in omega (arith, rest)

filter_times : (test : Slot → Bool) (n : ℕ) (zs : List Slot) → times n (filter test zs) ≤ times n zs
filter_times test n [] = omega arith
filter_times test n (z ∷ zs) = on (test z) (filter_times test n zs)
  where
    on : (b : Bool) → times n (filter test zs) ≤ times n zs
        → times n (cond b (z ∷ filter test zs) (filter test zs)) ≤ once_if (z.block == n) + times n zs
    on true rest = omega (arith, rest)
    on false rest = omega (arith, rest)

-- ---- states that have fewer slots, whose blocks stay

pub stays : (s u : State) → CountsSlots s
    → ((n : ℕ) → 1 ≤ times_on (u.top ∷ u.below) n → IsAllocaBlock s.world.memory n → IsAllocaBlock u.world.memory n)
    → ((n : ℕ) → times_on (u.top ∷ u.below) n ≤ times_on (s.top ∷ s.below) n) → CountsSlots u
stays s u h carries fewer = record {
  blocks = λ n le. let less = fewer n in carries n le (h.blocks n (omega (arith, le, less)));
  once = λ n. let less = fewer n in let one = h.once n in omega (arith, less, one);
}

-- what a part of a step gives, if it gives a state
abbrev pub Stays : Result State Cause → Type 0
Stays (Err cause) = Unit {0}
Stays (Ok s) = CountsSlots s

then_stays : {A : Type 0} (r : Result A Cause) (f : A → Result State Cause) → ((a : A) → r ≡ Ok a → Stays (f a))
    → Stays (and_then r f)
then_stays (Err cause) f h = tt
then_stays (Ok a) f h = h a refl

ok_stays : (b : Bool) (cause : Cause) (s : State) → CountsSlots s → Stays (ok_if b cause s)
ok_stays true cause s h = h
ok_stays false cause s h = tt

reach : (n : ℕ) → n ≤ n
reach n = omega arith

-- the same slots, over a memory that carries their blocks
carried : (s : State) (m : List MemoryBlock) → Carries s.world.memory m → CountsSlots s → CountsSlots (with_memory s m)
carried s m carries h = record { blocks = λ n le. carries n (h.blocks n le); once = h.once }

gives_stays : (s : State) (result : Option ℕ) (v : Value) → CountsSlots s → CountsSlots (gives s result v)
gives_stays s result v h = record { blocks = h.blocks; once = h.once }

push_stays : (s : State) (a : Activation) → a.slots ≡ [] → CountsSlots s → CountsSlots (push s a)
push_stays s a none h =
    stays s (push s a) h (λ n le block. block)
    (λ n. let zero_times : times n a.slots ≡ 0 = ap (times n) none in omega (arith, zero_times))

enter_stays : (g : FramedGiven) (s : State) (from label : ℕ) (o : Option Point) → CountsSlots s
    → CountsSlots (enter_after g s from label o)
enter_stays g s from label None h = record { blocks = h.blocks; once = h.once }
enter_stays g s from label (Some p) h = record { blocks = h.blocks; once = h.once }

-- ---- a new slot

-- the next block is no slot's
new_stays : (s : State) (m : List MemoryBlock) (z : Slot) → z.block ≡ length s.world.memory
    → Carries s.world.memory m → IsAllocaBlock m (length s.world.memory) → CountsSlots s
    → CountsSlots (record (with_memory s m) { top = record s.top { slots = z ∷ s.top.slots } })
new_stays s m z next carries new h = record {
  blocks = λ n le. by n (z.block == n) refl le;
  once = λ n. one n (z.block == n) refl;
}
  where
    by : (n : ℕ) (b : Bool) → (z.block == n) ≡ b → 1 ≤ once_if b + times n s.top.slots + times_on s.below n
        → IsAllocaBlock m n
    by n true is le =
        subst (λ (k : ℕ). IsAllocaBlock m k) (sym next ∙ equal_numbers z.block n is) new
    by n false is le = carries n (h.blocks n (omega (arith, le)))

    none_old : (n : ℕ) → z.block ≡ n → 1 ≤ times n s.top.slots + times_on s.below n → ⊥
    none_old n is le =
        let old = h.blocks n le in
        let lt = get_within s.world.memory n old.block old.there in
        omega (arith, lt, is, next)

    one : (n : ℕ) (b : Bool) → (z.block == n) ≡ b → once_if b + times n s.top.slots + times_on s.below n ≤ 1
    one n true is =
        let small = none (times n s.top.slots + times_on s.below n) (none_old n (equal_numbers z.block n is)) in
        omega (arith, small)
      where
        none : (k : ℕ) → (1 ≤ k → ⊥) → k ≤ 0
        none zero never = omega arith
        none (suc k) never = absurd (never (omega arith))
    one n false is = let old = h.once n in omega (arith, old)

-- ---- returns

return_stays : (s : State) (v : Option Value) → CountsSlots s → Stays (return s v)
return_stays s v h = on s.below refl
  where
    -- a slot below is none of those that die
    spares : (n : ℕ) → 1 ≤ times_on s.below n → IsAllocaBlock s.world.memory n
        → IsAllocaBlock (without_slots s.world.memory s.top.slots) n
    spares n le block = record {
      block = block.block;
      there = spared s.world.memory s.top.slots n apart ∙ block.there;
      made = block.made;
      unkilled = block.unkilled;
    }
      where
        apart : IsSlotOf s.top.slots n → ⊥
        apart slot =
            let mine = slot_counts s.top.slots n slot in
            let one = h.once n in
            omega (arith, mine, one, le)

    over : (o : Outcome) → s.below ≡ [] → CountsSlots (record (returned s) { outcome = o })
    over o none =
        stays s (record (returned s) { outcome = o }) h (λ n le block. spares n (omega (arith, le)) block)
        (λ n. omega arith)

    on : (rows : List Activation) → s.below ≡ rows → Stays (pop (returned s) v rows)
    on [] e = then_stays (outcome_of v) (λ (o : Outcome). Ok (record (returned s) { outcome = o })) (λ o is. over o e)
    on (a ∷ rest) e = record {
      blocks = λ n le. let below = at n e in spares n (omega (arith, le, below))
          (h.blocks n (omega (arith, le, below)));
      once = λ n. let below = at n e in let one = h.once n in omega (arith, below, one);
    }
      where
        at : (n : ℕ) → s.below ≡ a ∷ rest → times_on s.below n ≡ times n a.slots + times_on rest n
        at n e = ap (λ (rows : List Activation). times_on rows n) e

after_stays : (s : State) (result : Option ℕ) (mode : Mode) → CountsSlots s → Stays (after_end s result mode)
after_stays s result Mode.Resumed h = return_stays s None h
after_stays s result _ h = gives_stays s result _ h

-- ---- instances of the state have no slots

numbered_there : (xs : List Instance) (j : ℕ) (i : ℕ) (x : Instance) → numbered xs j ≡ Some (i, x)
    → slice_get xs i ≡ Some x
numbered_there xs j i x e = on (slice_get xs j) refl e
  where
    on : (o : Option Instance) → slice_get xs j ≡ o → option_map {U = ℕ × Instance} (λ y. (j, y)) o ≡ Some (i, x)
        → slice_get xs i ≡ Some x
    on None there k = absurd (cc)
    on (Some y) there k =
        let pair : ◌≡◌ {A = ℕ × Instance} (j, y) (i, x) = cc in
        ap (slice_get xs) (sym (ap (λ (p : ℕ × Instance). p.0) pair))
        ∙ (there ∙ ap (λ (p : ℕ × Instance). Some p.1) pair)

option_there : (xs : List Instance) (o : Option ℕ) (i : ℕ) (x : Instance) → option_and_then (numbered xs) o ≡ Some
    (i, x)
    → slice_get xs i ≡ Some x
option_there xs None i x e = absurd (cc)
option_there xs (Some j) i x e = numbered_there xs j i x e

at_there : (xs : List Instance) (p : Value) (i : ℕ) (x : Instance) → instance_at xs p ≡ Some (i, x)
    → slice_get xs i ≡ Some x
at_there xs (Value.Ptr (Pointer.At b o)) i x e = option_there xs (last_from (began_at b o.bits) 0 xs) i x e
at_there xs (Value.Ptr Pointer.Null) i x e = absurd (cc)
at_there xs (Value.Ptr (Pointer.Func f)) i x e = absurd (cc)
at_there xs Value.Poison i x e = absurd (cc)
at_there xs (Value.Int w) i x e = absurd (cc)

module _ (s : State) (none : HaveNoSlots s) (h : CountsSlots s) where
  -- those of an instance that is found
  no_slots : (o : Option (ℕ × Instance)) → ((i : ℕ) (x : Instance) → o ≡ Some (i, x) → slice_get s.instances i ≡ Some x)
      → slots_of o ≡ []
  no_slots None is = refl
  no_slots (Some p) is = none p.0 p.1 (is p.0 p.1 refl)

  own_slots : slots_of (own_instance s) ≡ []
  own_slots = no_slots (own_instance s) (λ i x e. option_there s.instances s.top.instance i x e)

  changed : (change : Instance → Instance) (o : Option (ℕ × Instance)) (z : State) → CountsSlots z
      → CountsSlots (change_own z change o)
  changed change None z k = k
  changed change (Some p) z k = record { blocks = k.blocks; once = k.once }

  change_memory : (change : Instance → Instance) (o : Option (ℕ × Instance))
      → (change_own s change o).world.memory ≡ s.world.memory
  change_memory change None = refl
  change_memory change (Some p) = refl

  finish_stays : CountsSlots (finish s)
  finish_stays =
      subst (λ (zs : List Slot). CountsSlots (with_memory (change_own s (λ x. record x { status = Status.Finished })
      (own_instance s)) (without_slots s.world.memory zs))) (sym own_slots)
      (carried (change_own s (λ x. record x { status = Status.Finished }) (own_instance s)) s.world.memory
      (subst (λ (m : List MemoryBlock). Carries m s.world.memory)
      (sym (change_memory (λ x. record x { status = Status.Finished }) (own_instance s))) (λ n block. block))
      (changed (λ x. record x { status = Status.Finished }) (own_instance s) s h))

  disowned_stays : (z : State) (o : Option (ℕ × Instance)) → CountsSlots z → CountsSlots (disown_given z o)
  disowned_stays z None k = k
  disowned_stays z (Some p) k = on (is_stack_block z.world.memory p.1.block && (p.1.start == 0))
    where
      on : (b : Bool) → CountsSlots (if b then with_memory z (disown z.world.memory p.1.block) else z)
      on true = carried z (disown z.world.memory p.1.block) (disown_carries z.world.memory p.1.block) k
      on false = k

  end_stays : (result : Option ℕ) → Stays (end_of s framed_finish result)
  end_stays result = on s.top.has_left
    where
      on : (b : Bool) → Stays (after_end (if b then s else framed_finish s) result s.top.mode)
      on true = after_stays s result s.top.mode h
      on false = after_stays (framed_finish s) result s.top.mode
          (disowned_stays (finish s) (own_instance s) finish_stays)

  let_go_stays : (o : Option (ℕ × Instance))
      → ((i : ℕ) (x : Instance) → o ≡ Some (i, x) → slice_get s.instances i ≡ Some x) → CountsSlots (if_let_go s o)
  let_go_stays None is = h
  let_go_stays (Some p) is = on (may_be_freed p.1)
    where
      freed : CountsSlots (let_go s p.0 p.1)
      freed =
          subst (λ (zs : List Slot). CountsSlots (with_memory (with_instance s p.0 (record p.1 { freed = true }))
          (disown (without_slots s.world.memory zs) p.1.block))) (sym (none p.0 p.1 (is p.0 p.1 refl)))
          (carried (with_instance s p.0 (record p.1 { freed = true })) (disown s.world.memory p.1.block)
          (disown_carries s.world.memory p.1.block) (record { blocks = h.blocks; once = h.once }))

      on : (b : Bool) → CountsSlots (if b then let_go s p.0 p.1 else s)
      on true = freed
      on false = h

  deallocated_stays : (p : Value) → Stays (deallocate s p)
  deallocated_stays p =
      on (if_let_go s (instance_at s.instances p))
      (let_go_stays (instance_at s.instances p) (λ i x e. at_there s.instances p i x e))
    where
      on : (z : State) → CountsSlots z
          → Stays (and_then (deallocated z.world.memory p) (λ (m : List MemoryBlock). Ok (next (with_memory z m))))
      on z k = by (deallocated z.world.memory p) (kill_carries z.world.memory p)
        where
          by : (r : Result (List MemoryBlock) Cause) → CarriesAll z.world.memory r
              → Stays (and_then r (λ (m : List MemoryBlock). Ok (next (with_memory z m))))
          by (Err cause) c = tt
          by (Ok m) c = record { blocks = λ n le. c n (k.blocks n le); once = k.once }

-- ---- begins

module _ (g : FramedGiven) (s : State) (h : CountsSlots s) where
  begun_stays : (z : State) → CountsSlots z → (block start : ℕ) → CountsSlots (begun g.given z block start)
  begun_stays z k block start =
      stays z (begun g.given z block start) k (λ n le b. b)
      (λ n.
      let few = filter_times (is_among (own_facts g.given z).ramp_slots) n z.top.slots in
      let same = ap (times n) (append-nil (filter (is_among (own_facts g.given z).ramp_slots) z.top.slots)) in
      omega (arith, few, same))

  begin_at_stays : (z : State) → CountsSlots z → (mem : Value) (kind : Kind) → Stays (begin_at g.given z mem kind)
  begin_at_stays z k mem kind =
      on (own z.world.memory mem (own_frame g.given z).size kind)
      (own_carries z.world.memory mem (own_frame g.given z).size kind)
    where
      on : (r : Result (List MemoryBlock) Cause) → CarriesAll z.world.memory r
          → Stays (and_then r (λ (m : List MemoryBlock). and_then (found Cause.Begin (block_of mem)) (λ (b : ℕ).
          Ok (begun g.given (with_memory z m) b 0))))
      on (Err cause) c = tt
      on (Ok m) c =
          then_stays (found Cause.Begin (block_of mem)) (λ (b : ℕ). Ok (begun g.given (with_memory z m) b 0))
          (λ b is. begun_stays (with_memory z m) (carried z m c k) b 0)

  begin_stays : (result : Option ℕ) (mem : Value) → Stays (begin g.given s result mem)
  begin_stays result mem =
      on (is_none s.top.instance)
    where
      gives_on : (r : Result State Cause) → Stays r
          → Stays (and_then r (λ (z : State). Ok (gives z result mem)))
      gives_on (Err cause) k = tt
      gives_on (Ok z) k = gives_stays z result mem k

      on : (b : Bool) → Stays (and_then (ok_if b Cause.Begin s) (λ (z : State).
          and_then (begin_at g.given z mem Kind.Allocator) (λ (z : State). Ok (gives z result mem))))
      on true = gives_on (begin_at g.given s mem Kind.Allocator) (begin_at_stays s h mem Kind.Allocator)
      on false = tt

  in_frame_stays : (b : ℕ) (o : Offset) → Stays (begin_in_frame g s b o)
  in_frame_stays b o =
      ok_stays (is_live_at s.world.memory b) Cause.Begin (begun g.given s b o.bits) (begun_stays s h b o.bits)

  in_block_stays : (b : ℕ) (o : Offset) → Stays (begin_in_block g s b o)
  in_block_stays b o = on ((o.bits == 0) && has_size s.world.memory b (own_frame g.given s).size)
    where
      on : (t : Bool) → Stays (and_then (ok_if t Cause.Begin s) (λ (z : State).
          begin_at g.given z (Value.Ptr (Pointer.At b o)) Kind.Stack))
      on true = begin_at_stays s h (Value.Ptr (Pointer.At b o)) Kind.Stack
      on false = tt

  given_at_stays : (frame : Value) → Stays (begin_given_at g s frame)
  given_at_stays (Value.Ptr (Pointer.At b o)) =
      on (has_room g o.bits (own_frame g.given s).size (frame_around g s.instances b o.bits))
    where
      on : (t : Bool) → Stays (if t then begin_in_frame g s b o else begin_in_block g s b o)
      on true = in_frame_stays b o
      on false = in_block_stays b o
  given_at_stays (Value.Ptr Pointer.Null) = tt
  given_at_stays (Value.Ptr (Pointer.Func f)) = tt
  given_at_stays Value.Poison = tt
  given_at_stays (Value.Int w) = tt

  begin_given_stays : (result : Option ℕ) (frame : Value) → Stays (begin_given g s result frame)
  begin_given_stays result frame = on (is_none s.top.instance && are_finished_at s.instances frame)
    where
      gives_on : (r : Result State Cause) → Stays r
          → Stays (and_then r (λ (z : State). Ok (gives z result frame)))
      gives_on (Err cause) k = tt
      gives_on (Ok z) k = gives_stays z result frame k

      on : (b : Bool) → Stays (and_then (ok_if b Cause.Begin s) (λ (z : State).
          and_then (begin_given_at g z frame) (λ (z : State). Ok (gives z result frame))))
      on true = gives_on (begin_given_at g s frame) (given_at_stays frame)
      on false = tt

  framed_begin_stays : (result : Option ℕ) (mem : Value) (mode : Mode) → Stays (framed_begin g s result mem mode)
  framed_begin_stays result mem (Mode.GivenRamp frame) = begin_given_stays result frame
  framed_begin_stays result mem Mode.Plain = begin_stays result mem
  framed_begin_stays result mem Mode.Ramp = begin_stays result mem
  framed_begin_stays result mem Mode.Resumed = begin_stays result mem
  framed_begin_stays result mem (Mode.Entering from label) = begin_stays result mem

  -- ---- saves, resumes and what gives a value

  save_for_stays : (p q : Point) → Stays (save_for s p q)
  save_for_stays p q = on (own_instance s)
    where
      saved : ℕ × Instance → State
      saved y =
          with_left
          (with_instance s y.0 (record y.1 {
            status = Status.Suspended q s.top.values;
            last_save = Some (record { depth = length s.below; save = p });
          }))
          true

      on : (o : Option (ℕ × Instance)) → Stays (and_then (found Cause.State o) (λ (y : ℕ × Instance).
          ok_if (not y.1.freed) Cause.State
          (with_left
          (with_instance s y.0 (record y.1 {
            status = Status.Suspended q s.top.values;
            last_save = Some (record { depth = length s.below; save = p });
          }))
          true)))
      on None = tt
      on (Some y) = ok_stays (not y.1.freed) Cause.State _ (record { blocks = h.blocks; once = h.once })

  save_stays : Stays (save g.given s)
  save_stays = on (suspend_of (function_of g.given s) (point_of s))
    where
      next_on : (r : Result State Cause) → Stays r → Stays (and_then r (λ (z : State). Ok (next z)))
      next_on (Err cause) k = tt
      next_on (Ok z) k = record { blocks = k.blocks; once = k.once }

      on : (o : Option Point) → Stays (and_then (found Cause.State o) (λ (q : Point).
          and_then (save_for s (point_of s) q) (λ (z : State). Ok (next z))))
      on None = tt
      on (Some q) = next_on (save_for s (point_of s) q) (save_for_stays (point_of s) q)

  suspend_stays : (result : Option ℕ) (x : Operand) → Stays (suspend s result x)
  suspend_stays result x = on (save_before s x) (before x)
    where
      before : (x : Operand) → Stays (save_before s x)
      before Operand.None = save_for_stays (point_of s) (point_of s)
      before (Operand.Local v) = h
      before (Operand.Global n) = h
      before (Operand.Number z) = h
      before Operand.True = h
      before Operand.False = h
      before Operand.Null = h
      before Operand.Poison = h

      on : (r : Result State Cause) → Stays r
          → Stays (and_then r (λ (z : State). Ok (gives z result (integer 8 (negsuc 0)))))
      on (Err cause) k = tt
      on (Ok z) k = gives_stays z result (integer 8 (negsuc 0)) k

  goes_stays : (i : ℕ) (x : Instance) (p : Point) (values : Env) (label : ℕ)
      → CountsSlots (continue_framed g s i x p values label)
  goes_stays i x p values label =
      enter_stays g (push (with_status s i x Status.Running)
      (resumed i x p (reentry_values (function_at g.given.code x.coroutine) (frame_address_of x)))) p.block label
      (alloca_from (function_at g.given.code x.coroutine) 0)
      (push_stays (with_status s i x Status.Running)
      (resumed i x p (reentry_values (function_at g.given.code x.coroutine) (frame_address_of x))) refl
      (record { blocks = h.blocks; once = h.once }))

  sleeper_stays : (go : Sleeper → Result State Cause) → ((y : Sleeper) → Stays (go y)) → (p : Value)
      → Stays (and_then (sleeper_at s p) go)
  sleeper_stays go k p = on (sleeper_at s p)
    where
      on : (r : Result Sleeper Cause) → Stays (and_then r go)
      on (Err cause) = tt
      on (Ok y) = k y

  resume_stays : (p : Value) → Stays (resume g.given (continue_framed g) s p)
  resume_stays p =
      sleeper_stays _ (λ y. ok_stays (not (is_final (function_at g.given.code y.instance.coroutine) y.suspend))
      Cause.State _ (goes_stays y.number y.instance y.suspend y.values (resume_label (function_at g.given.code
      y.instance.coroutine) y.suspend))) p

  destroy_stays : (p : Value) → Stays (destroy g.given (continue_framed g) s p)
  destroy_stays p =
      sleeper_stays _ (λ y. goes_stays y.number y.instance y.suspend y.values (destroy_label (function_at g.given.code
      y.instance.coroutine) y.suspend)) p

  done_stays : (result : Option ℕ) (p : Value) → Stays (done_at g.given s result p)
  done_stays result p =
      sleeper_stays _ (λ y. ok_stays (has_final (function_at g.given.code y.instance.coroutine)) Cause.State _
      (gives_stays s result _ h)) p

  promise_stays : (result : Option ℕ) (r : Result Value Cause)
      → Stays (and_then r (λ (v : Value). Ok (gives s result v)))
  promise_stays result (Err cause) = tt
  promise_stays result (Ok v) = gives_stays s result v h

  -- ---- branches

  leave_stays : (label : ℕ) (ws : List Window) → Stays (branch_leaving g.given s label ws)
  leave_stays label [] = record { blocks = h.blocks; once = h.once }
  leave_stays label (w ∷ ws) = on (own_instance s)
    where
      on : (o : Option (ℕ × Instance)) → Stays (and_then (found Cause.State o) (λ (y : ℕ × Instance).
          ok_if (list_all (may_leave (length s.below) y.1) (w ∷ ws)) Cause.State
          (enter_block g.given (with_left (with_status s y.0 y.1 Status.Running) false) label)))
      on None = tt
      on (Some y) =
          ok_stays (list_all (may_leave (length s.below) y.1) (w ∷ ws)) Cause.State _
          (record { blocks = h.blocks; once = h.once })

-- ---- a step

module _ (g : FramedGiven) (s : State) (none : HaveNoSlots s) (h : CountsSlots s) where
  released_stays : CountsSlots (release s)
  released_stays = changed s none h (λ x. record x { released = true }) (own_instance s) s h

  next_stays : CountsSlots (next s)
  next_stays = record { blocks = h.blocks; once = h.once }

  coro_stays : (i : Intrinsic) (args : List Arg) (vs : List Value) (result : Option ℕ)
      → Stays (framed_coro g s i args vs result)
  coro_stays Intrinsic.CoroId args vs result = next_stays
  coro_stays Intrinsic.CoroSizeI32 args vs result = gives_stays s result _ h
  coro_stays Intrinsic.CoroSizeI64 args vs result = gives_stays s result _ h
  coro_stays Intrinsic.CoroAlignI32 args vs result = gives_stays s result _ h
  coro_stays Intrinsic.CoroAlignI64 args vs result = gives_stays s result _ h
  coro_stays Intrinsic.CoroAlloc args vs result = gives_stays s result _ h
  coro_stays Intrinsic.CoroBegin args vs result = framed_begin_stays g s h result (nth vs 1) s.top.mode
  coro_stays Intrinsic.CoroFree args vs result = gives_stays (release s) result _ released_stays
  coro_stays Intrinsic.CoroFrame args vs result = gives_stays s result _ h
  coro_stays Intrinsic.CoroSave args vs result = save_stays g s h
  coro_stays Intrinsic.CoroSuspend args vs result = suspend_stays g s h result (operand_at args 0)
  coro_stays Intrinsic.CoroEnd args vs result = end_stays s none h result
  coro_stays Intrinsic.CoroResume args vs result = resume_stays g s h (nth vs 0)
  coro_stays Intrinsic.CoroDestroy args vs result = destroy_stays g s h (nth vs 0)
  coro_stays Intrinsic.CoroDone args vs result = done_stays g s h result (nth vs 0)
  coro_stays Intrinsic.CoroPromise args vs result =
      promise_stays g s h result (framed_promise g s (nth vs 0) (operand_at args 2))
  coro_stays Intrinsic.LifetimeStart args vs result = next_stays
  coro_stays Intrinsic.LifetimeEnd args vs result = next_stays
  coro_stays Intrinsic.MemcpyI64 args vs result = next_stays
  coro_stays Intrinsic.MemcpyI32 args vs result = next_stays

  slot_stays : (z : State) (slot : Slot) (mode : Mode) → CountsSlots (with_slots z (slot ∷ z.top.slots))
      → CountsSlots (framed_slot g z slot mode)
  slot_stays z slot Mode.Plain k = k
  slot_stays z slot Mode.Ramp k = k
  slot_stays z slot Mode.Resumed k = k
  slot_stays z slot (Mode.GivenRamp frame) k = k
  slot_stays z slot (Mode.Entering from label) k =
      enter_stays g (with_slots z (slot ∷ z.top.slots)) from label
      (alloca_from (function_of g.given z) z.top.at) k

  act_stays : (a : Action) → ActionKeeps s.world.memory a → Stays (framed_act g s a)
  act_stays (Done w) k = record { blocks = λ n le. k n (h.blocks n le); once = h.once }
  act_stays (NewSlot w slot) k =
      let new = new_stays s w.world.memory slot k.0 k.1 k.2 h in
      slot_stays (settled s w) slot s.top.mode (record { blocks = new.blocks; once = new.once })
  act_stays (Enter func args result must_tail) k =
      push_stays s _ refl h
  act_stays (Coro i args result) k = coro_stays i args (arg_values g.given.code s.top.values args) result
  act_stays (Deallocate p) k = deallocated_stays s none h p
  act_stays (GoTo label) k = leave_stays g s h label (left_windows g.given s label)
  act_stays (Return v) k = return_stays s v h
  act_stays (Stuck cause) k = tt

  acted : (x : Fetched) → Stays (framed_act g s (action_of (framed_context g s) (work_of s) x))
  acted x =
      act_stays (action_of (framed_context g s) (work_of s) x) (action_keeps (framed_context g s) (work_of s) x)

  named_stays : (x : Fetched) (result : Option ℕ) (vs : List Value) (o : Option ℕ)
      → Stays (unwrap_or (enter_given g s result vs o) (framed_act g s (action_of (framed_context g s) (work_of s) x)))
  named_stays x result vs None = acted x
  named_stays x result vs (Some func) = push_stays s _ refl h

  fetched_stays : (x : Fetched) → Stays (framed_next g s x)
  fetched_stays Nowhere = acted Nowhere
  fetched_stays (AtTerm t) = acted (AtTerm t)
  fetched_stays (AtInstr (Instr.Call result must_tail ty (Callee.Named name) args)) =
      named_stays (AtInstr (Instr.Call result must_tail ty (Callee.Named name) args)) result
      (arg_values g.given.code s.top.values args) (given_ramp g.given.code name)
  fetched_stays (AtInstr (Instr.Call result must_tail ty (Callee.Allocator a) args)) =
      acted (AtInstr (Instr.Call result must_tail ty (Callee.Allocator a) args))
  fetched_stays (AtInstr (Instr.Call result must_tail ty (Callee.Intrinsic i) args)) =
      acted (AtInstr (Instr.Call result must_tail ty (Callee.Intrinsic i) args))
  fetched_stays (AtInstr (Instr.Call result must_tail ty (Callee.Local v) args)) =
      acted (AtInstr (Instr.Call result must_tail ty (Callee.Local v) args))
  fetched_stays (AtInstr (Instr.Binary name op flags ty a b)) = acted (AtInstr (Instr.Binary name op flags ty a b))
  fetched_stays (AtInstr (Instr.Icmp name pred ty a b)) = acted (AtInstr (Instr.Icmp name pred ty a b))
  fetched_stays (AtInstr (Instr.Select name x a b)) = acted (AtInstr (Instr.Select name x a b))
  fetched_stays (AtInstr (Instr.Cast name op nneg arg to)) = acted (AtInstr (Instr.Cast name op nneg arg to))
  fetched_stays (AtInstr (Instr.Alloca name ty align)) = acted (AtInstr (Instr.Alloca name ty align))
  fetched_stays (AtInstr (Instr.Load name ty p align)) = acted (AtInstr (Instr.Load name ty p align))
  fetched_stays (AtInstr (Instr.Store arg p align)) = acted (AtInstr (Instr.Store arg p align))
  fetched_stays (AtInstr (Instr.Gep name inbounds ty base indices)) =
      acted (AtInstr (Instr.Gep name inbounds ty base indices))

  or_stays : (r : Result State Cause) → Stays r → CountsSlots (or_undefined g.given s r)
  or_stays (Err cause) k = record { blocks = h.blocks; once = h.once }
  or_stays (Ok u) k = k

  pub step_counts : CountsSlots (framed_step g s)
  step_counts = on s.outcome
    where
      on : (o : Outcome) → CountsSlots (framed_advance g s o)
      on Outcome.Running =
          or_stays (framed_next g s (fetch (function_of g.given s) s.top.block s.top.at))
          (fetched_stays (fetch (function_of g.given s) s.top.block s.top.at))
      on (Outcome.Returned v) = h
      on (Outcome.Undefined cause place) = h

-- ---- the start, and what the counts say

pub start_counts : (m : Module) (entry : ℕ) (args : List Word) → CountsSlots (first_state m entry args)
start_counts m entry args = record { blocks = λ n le. absurd (omega (arith, le)); once = λ n. omega arith }

-- two places of a list with one block count twice
two_times : (zs : List Slot) (n p q : ℕ) (y z : Slot) → slice_get zs p ≡ Some y → slice_get zs q ≡ Some z → y.block ≡ n
    → z.block ≡ n → times n zs ≤ 1 → p ≡ q
two_times [] n p q y z at to same too le = absurd (cc)
two_times (x ∷ zs) n zero zero y z at to same too le = refl
two_times (x ∷ zs) n zero (suc q) y z at to same too le =
    let first = slot_counts (x ∷ []) n (record { position = 0; slot = y; there = at; same = same }) in
    let second = slot_counts zs n (record { position = q; slot = z; there = to; same = too }) in
    absurd (omega (arith, first, second, le))
two_times (x ∷ zs) n (suc p) zero y z at to same too le =
    let first = slot_counts (x ∷ []) n (record { position = 0; slot = z; there = to; same = too }) in
    let second = slot_counts zs n (record { position = p; slot = y; there = at; same = same }) in
    absurd (omega (arith, first, second, le))
two_times (x ∷ zs) n (suc p) (suc q) y z at to same too le =
    ap suc (two_times zs n p q y z at to same too (omega (arith, le)))

row_counts : (rows : List Activation) (j p n : ℕ) (a : Activation) (z : Slot) → slice_get rows j ≡ Some a
    → slice_get a.slots p ≡ Some z → z.block ≡ n → 1 ≤ times_on rows n
row_counts [] j p n a z at to same = absurd (cc)
row_counts (b ∷ rows) zero p n a z at to same =
    let is : b ≡ a = cc in
    let one = slot_counts b.slots n (record {
      position = p;
      slot = z;
      there = ap (λ (c : Activation). slice_get c.slots p) is ∙ to;
      same = same;
    }) in
    omega (arith, one)
row_counts (b ∷ rows) (suc j) p n a z at to same =
    let one = row_counts rows j p n a z at to same in omega (arith, one)

two_rows : (rows : List Activation) (n j k p q : ℕ) (a b : Activation) (y z : Slot) → slice_get rows j ≡ Some a
    → slice_get rows k ≡ Some b → slice_get a.slots p ≡ Some y → slice_get b.slots q ≡ Some z → y.block ≡ n → z.block
    ≡ n
    → times_on rows n ≤ 1 → (j ≡ k) × (p ≡ q)
two_rows [] n j k p q a b y z at to ya zb same too le = absurd (cc)
two_rows (x ∷ rows) n zero zero p q a b y z at to ya zb same too le =
    let first : x ≡ a = cc in
    let second : x ≡ b = cc in (
      refl,
      two_times x.slots n p q y z (ap (λ (c : Activation). slice_get c.slots p) first ∙ ya)
          (ap (λ (c : Activation). slice_get c.slots q) second ∙ zb) same too (omega (arith, le)),
    )
two_rows (x ∷ rows) n zero (suc k) p q a b y z at to ya zb same too le =
    let first : x ≡ a = cc in
    let mine = slot_counts x.slots n (record {
      position = p;
      slot = y;
      there = ap (λ (c : Activation). slice_get c.slots p) first ∙ ya;
      same = same;
    }) in
    let other = row_counts rows k q n b z to zb too in
    absurd (omega (arith, mine, other, le))
two_rows (x ∷ rows) n (suc j) zero p q a b y z at to ya zb same too le =
    let first : x ≡ b = cc in
    let mine = slot_counts x.slots n (record {
      position = q;
      slot = z;
      there = ap (λ (c : Activation). slice_get c.slots q) first ∙ zb;
      same = too;
    }) in
    let other = row_counts rows j p n a y at ya same in
    absurd (omega (arith, mine, other, le))
two_rows (x ∷ rows) n (suc j) (suc k) p q a b y z at to ya zb same too le =
    let rest = two_rows rows n j k p q a b y z at to ya zb same too (omega (arith, le)) in
    (ap suc rest.0, rest.1)

pub counted_own : (t : State) → CountsSlots t → HaveOwnSlots t
counted_own t h = record {
  blocks = λ j m z has. h.blocks z.block
      (row_counts (t.top ∷ t.below) j m z.block has.activation z has.there has.slot refl);
  once = λ j k m n y z has too same.
      two_rows (t.top ∷ t.below) z.block j k m n has.activation too.activation y z has.there too.there has.slot too.slot
      same refl (h.once z.block);
}
