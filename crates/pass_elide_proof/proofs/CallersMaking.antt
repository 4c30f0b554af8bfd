-- Callers of instances stay on the stack where the topmost activation makes, marks or frees a block.
use Rattle.std.proofs.Common.{◌≡◌, ◌+◌, ◌++◌, ◌∙◌, ◌∷◌, ◌||◌, ◌==◌, [], ap, arith, Bool, false, List, length, not, Ok, Option, refl, Result, subst, suc, sym, true, ℕ, if◌then◌else◌}
use Rattle.std.specs.List.{Contains}
use Rattle.std.specs.Prelude.{None, Some, slice_get}
use Rattle.elide_sites.specs.Sites.{is_destroy_of}
use Rattle.pass_elide_proof.proofs.CallersBlocks.{KeepsStacks, KeptIf, changed_keeps, disowned_life, ended_kind, freed_keeps, frames_kept, grown_keeps, lives_elsewhere, new_frames, stack_with, stacks_same, stacks_then, started_life}
use Rattle.pass_elide_proof.proofs.CallersCoros.{no_destroy, then_keep}
use Rattle.pass_elide_proof.proofs.CallersEdges.{status_was}
use Rattle.pass_elide_proof.proofs.CallersInstr.{Keep, instr_keeps, next_keeps, was_itself}
use Rattle.pass_elide_proof.proofs.CallersValues.{result_elsewhere}
use Rattle.pass_elide_proof.proofs.LastFound.{found_there}
use Rattle.pass_elide_proof.specs.Callers.{HaveBlocks, IsNotEntering, KeepsFrames, MarksNoFrame, StandsAtInstr, WasBefore}
use Rattle.pass_elide_proof.specs.Elision.{Elision, elided}
use Rattle.pass_elide_proof.specs.Invariant.{HaveCallers}
use Rattle.pass_elide_proof.specs.OwnSlots.{HaveNoSlots}
use Rattle.pass_proofs.proofs.run_laws.transfer.Sets.{set_elsewhere}
use Rattle.pass_proofs.specs.ir_base.declared.cause.Cause.{Cause}
use Rattle.pass_proofs.specs.ir_model.Layout.{size_of}
use Rattle.pass_proofs.specs.ir_model.Ty.{Ty}
use Rattle.pass_proofs.specs.ir_model.declared.instr.Instr.{Instr}
use Rattle.pass_proofs.specs.ir_model.declared.operand.Allocator.{Allocator}
use Rattle.pass_proofs.specs.ir_model.declared.operand.Arg.{Arg}
use Rattle.pass_proofs.specs.ir_model.declared.operand.Callee.{Callee}
use Rattle.pass_proofs.specs.ir_model.declared.operand.Intrinsic.{Intrinsic}
use Rattle.pass_proofs.specs.run_framed.Framed.{framed_act, framed_context, framed_next, framed_slot, framed_step, is_stack_block}
use Rattle.pass_proofs.specs.run_laws.memory.Standing.{blank_block}
use Rattle.pass_proofs.specs.run_memory.Memory.{disown, disowned, end, ended, start, started}
use Rattle.pass_proofs.specs.run_memory.declared.block.Kind.{Kind}
use Rattle.pass_proofs.specs.run_memory.declared.block.MemoryBlock.{MemoryBlock}
use Rattle.pass_proofs.specs.run_memory.declared.pointer.Pointer.{Pointer}
use Rattle.pass_proofs.specs.run_memory.declared.pointer.Value.{Value}
use Rattle.pass_proofs.specs.run_source.Source.{deallocate, if_let_go, let_go, may_be_freed}
use Rattle.pass_proofs.specs.run_source.State.{began_at, instance_at, next, settled, with_memory, with_slots, work_of}
use Rattle.pass_proofs.specs.run_source.declared.state.Activation.{Activation}
use Rattle.pass_proofs.specs.run_source.declared.state.Instance.{Instance}
use Rattle.pass_proofs.specs.run_source.declared.state.Mode.{Mode}
use Rattle.pass_proofs.specs.run_source.declared.state.State.{State}
use Rattle.pass_proofs.specs.run_step.Results.{and_then}
use Rattle.pass_proofs.specs.run_step.Step.{AtInstr, Context, Done, NewSlot, Stuck, Work, alloca_kind, allocated, block_of, deallocated, has_markers, is_alignment, on_block, set_memory, set_value, with_length, without_slots}
use Rattle.pass_proofs.specs.run_step.Values.{address, arg_values, nth, pointer_to, value_in}
use Rattle.pass_proofs.specs.run_step.declared.world.Slot.{Slot}

calm : (result : Option ℕ) (must_tail : Bool) (ty : Option Ty) (a : Allocator) (args : List Arg) (v : Option ℕ)
    → is_destroy_of v (Instr.Call result must_tail ty (Callee.Allocator a) args) ≡ false
calm result must_tail ty a args None = refl
calm result must_tail ty a args (Some v) = refl

-- ---- allocators

module _ (e : Elision) (t : State) (at : ℕ) (a : Allocator) (result : Option ℕ) (must_tail : Bool) (ty : Option Ty)
    (args : List Arg) (k : StandsAtInstr e t at (Instr.Call result must_tail ty (Callee.Allocator a) args))
    (h : HaveCallers e t) where
  abbrev vs : List Value
  vs = arg_values (elided e).given.code t.top.values args

  allocated_keeps : (v : Value)
      → Keep e (framed_act (elided e) t (with_length v (λ n. Done (allocated (work_of t) result n))))
  allocated_keeps (Value.Int x) =
      instr_keeps e t (settled t (allocated (work_of t) result x.bits)) at
      (Instr.Call result must_tail ty (Callee.Allocator a) args) k (calm result must_tail ty a args) refl
      (was_itself t.instances)
      (frames_kept t (settled t (allocated (work_of t) result x.bits))
      (grown_keeps t.world.memory (blank_block x.bits 16 Kind.Allocator) refl))
      (record { func = refl; block = refl; result = refl; mode = refl; instance = refl; has_left = refl }) refl
      (λ u ne. result_elsewhere t.top.values result (pointer_to (length t.world.memory)) u ne) (λ s has. has) h
  allocated_keeps Value.Poison = tt
  allocated_keeps (Value.Ptr p) = tt

  -- ---- frees

  module _ (none : HaveNoSlots t) where
    found : (p : Value) (x : ℕ × Instance) → instance_at t.instances p ≡ Some x
        → slice_get t.instances x.0 ≡ Some x.1
    found (Value.Ptr (Pointer.At b o)) x is = (found_there (began_at b o.bits) t.instances x is).0
    found (Value.Ptr Pointer.Null) x is = absurd (cc)
    found (Value.Ptr (Pointer.Func g)) x is = absurd (cc)
    found Value.Poison x is = absurd (cc)
    found (Value.Int w) x is = absurd (cc)

    next_keeps_on : (z : State) (memory : List MemoryBlock) → z.top ≡ t.top → z.below ≡ t.below
        → KeepsStacks t.world.memory memory
        → ((number : ℕ) (y : Instance) → slice_get z.instances number ≡ Some y → WasBefore t.instances number y)
        → HaveCallers e (next (with_memory z memory))
    next_keeps_on z memory top below stacks was =
        instr_keeps e t (next (with_memory z memory)) at (Instr.Call result must_tail ty (Callee.Allocator a) args) k
        (calm result must_tail ty a args) below was (frames_kept t (next (with_memory z memory)) stacks)
        (record {
          func = ap (λ (c : Activation). c.func) top;
          block = ap (λ (c : Activation). c.block) top;
          result = ap (λ (c : Activation). c.result) top;
          mode = ap (λ (c : Activation). c.mode) top;
          instance = ap (λ (c : Activation). c.instance) top;
          has_left = ap (λ (c : Activation). c.has_left) top;
        })
        (ap (λ (c : Activation). c.at + 1) top) (λ u ne. ap (λ (c : Activation). value_in c.values u) top)
        (λ s has. subst (λ (c : Activation). Contains c.slots s) (sym top) has) h

    if_freed : (p : Value) (z : State) → z.top ≡ t.top → z.below ≡ t.below
        → ((b : ℕ) → is_stack_block z.world.memory b ≡ is_stack_block t.world.memory b)
        → KeepsStacks t.world.memory z.world.memory
        → ((number : ℕ) (y : Instance) → slice_get z.instances number ≡ Some y → WasBefore t.instances number y)
        → Keep e (and_then (deallocated z.world.memory p) (λ memory. Ok (next (with_memory z memory))))
    if_freed p z top below same stacks was =
        then_keep e (deallocated z.world.memory p) (λ memory. Ok (next (with_memory z memory)))
        (λ memory is. next_keeps_on z memory top below
        (stacks_then t.world.memory z.world.memory memory same stacks
        (subst (KeptIf z.world.memory) is (freed_keeps z.world.memory p))) was)

    abbrev after : Value → State → Result State Cause
    after p z = and_then (deallocated z.world.memory p) (λ memory. Ok (next (with_memory z memory)))

    deallocates_keep : (p : Value) → Keep e (deallocate t p)
    deallocates_keep p = on (instance_at t.instances p) refl
      where
        still : Keep e (and_then (deallocated t.world.memory p) (λ memory. Ok (next (with_memory t memory))))
        still =
            if_freed p t refl refl (λ b. refl) (stacks_same t.world.memory) (was_itself t.instances)

        gone : (x : ℕ × Instance) → instance_at t.instances p ≡ Some x → Keep e (after p (let_go t x.0 x.1))
        gone x is =
            if_freed p (let_go t x.0 x.1) refl refl
            (λ b. stack_with disowned (λ y. refl) (without_slots t.world.memory x.1.slots) x.1.block b
            ∙ ap (λ (zs : List Slot). is_stack_block (without_slots t.world.memory zs) b) empty)
            (subst (λ (zs : List Slot). KeepsStacks t.world.memory (disown (without_slots t.world.memory zs)
            x.1.block)) (sym empty) (changed_keeps disowned t.world.memory x.1.block disowned_life))
            (status_was t.instances x.0 x.1 (record x.1 { freed = true }) (found p x is) refl refl refl
            (λ going. going))
          where
            empty : x.1.slots ≡ []
            empty = none x.0 x.1 (found p x is)

        by : (x : ℕ × Instance) → instance_at t.instances p ≡ Some x → (b : Bool)
            → Keep e (after p (if b then let_go t x.0 x.1 else t))
        by x is true = gone x is
        by x is false = still

        on : (o : Option (ℕ × Instance)) → instance_at t.instances p ≡ o → Keep e (after p (if_let_go t o))
        on None is = still
        on (Some x) is = by x is (may_be_freed x.1)

-- which allocator it is
pub allocators_keep : (e : Elision) (t : State) (at : ℕ) (a : Allocator) (result : Option ℕ) (must_tail : Bool)
    (ty : Option Ty) (args : List Arg)
    → StandsAtInstr e t at (Instr.Call result must_tail ty (Callee.Allocator a) args)
    → HaveNoSlots t → HaveCallers e t → HaveCallers e (framed_step (elided e) t)
allocators_keep e t at a result must_tail ty args k none h =
    next_keeps e t at (Instr.Call result must_tail ty (Callee.Allocator a) args) k h (by a k)
  where
    by : (a : Allocator) → StandsAtInstr e t at (Instr.Call result must_tail ty (Callee.Allocator a) args)
        → Keep e (framed_next (elided e) t (AtInstr (Instr.Call result must_tail ty (Callee.Allocator a) args)))
    by Allocator.Malloc k = allocated_keeps e t at Allocator.Malloc result must_tail ty args k h
        (nth (arg_values (elided e).given.code t.top.values args) 0)
    by Allocator.Znwm k = allocated_keeps e t at Allocator.Znwm result must_tail ty args k h
        (nth (arg_values (elided e).given.code t.top.values args) 0)
    by Allocator.Free k =
        deallocates_keep e t at Allocator.Free result must_tail ty args k h none
        (address (nth (arg_values (elided e).given.code t.top.values args) 0))
    by Allocator.ZdlPv k =
        deallocates_keep e t at Allocator.ZdlPv result must_tail ty args k h none
        (address (nth (arg_values (elided e).given.code t.top.values args) 0))
    by Allocator.ZdlPvm k =
        deallocates_keep e t at Allocator.ZdlPvm result must_tail ty args k h none
        (address (nth (arg_values (elided e).given.code t.top.values args) 0))

-- ---- markers

module _ (e : Elision) (t : State) (at : ℕ) (result : Option ℕ) (must_tail : Bool) (ty : Option Ty) (args : List Arg)
    (h : HaveCallers e t) where
  abbrev marker : Intrinsic → Instr
  marker j = Instr.Call result must_tail ty (Callee.Intrinsic j) args

  abbrev marked : Value
  marked = nth (arg_values (elided e).given.code t.top.values args) 1

  marked_keeps : (j : Intrinsic) → (j ≡ Intrinsic.CoroDestroy → ⊥) → StandsAtInstr e t at (marker j)
      → (memory : List MemoryBlock) → KeepsFrames t (settled t (set_memory (work_of t) memory))
      → HaveCallers e (settled t (set_memory (work_of t) memory))
  marked_keeps j ne k memory frames =
      instr_keeps e t (settled t (set_memory (work_of t) memory)) at (marker j) k
      (no_destroy result must_tail ty args j ne) refl (was_itself t.instances) frames
      (record { func = refl; block = refl; result = refl; mode = refl; instance = refl; has_left = refl }) refl
      (λ u ne. refl) (λ s has. has) h

  starts_frames : (o : Option ℕ) → KeepsStacks t.world.memory (on_block start t.world.memory o)
  starts_frames None = stacks_same t.world.memory
  starts_frames (Some b) = changed_keeps started t.world.memory b started_life

  pub starts_keep : StandsAtInstr e t at (marker Intrinsic.LifetimeStart) → HaveCallers e (framed_step (elided e) t)
  starts_keep k =
      next_keeps e t at (marker Intrinsic.LifetimeStart) k h
      (marked_keeps Intrinsic.LifetimeStart (λ no. cc) k (on_block start t.world.memory (block_of marked))
      (frames_kept t _ (starts_frames (block_of marked))))

  ends_frames : (o : Option ℕ) → block_of marked ≡ o → MarksNoFrame t marked
      → KeepsFrames t (settled t (set_memory (work_of t) (on_block end t.world.memory o)))
  ends_frames None is free = frames_kept t _ (stacks_same t.world.memory)
  ends_frames (Some b) is free = record {
    given = λ number y there given.
        (λ j. sym (stack_with ended ended_kind t.world.memory b y.block) j || not (y.start == 0)) ∙ given;
    lives = λ number y there stack going live.
        lives_elsewhere ended t.world.memory b y.block (free b number y is there going) live;
  }

  pub ends_keep : StandsAtInstr e t at (marker Intrinsic.LifetimeEnd) → MarksNoFrame t marked
      → HaveCallers e (framed_step (elided e) t)
  ends_keep k free =
      next_keeps e t at (marker Intrinsic.LifetimeEnd) k h
      (marked_keeps Intrinsic.LifetimeEnd (λ no. cc) k (on_block end t.world.memory (block_of marked))
      (ends_frames (block_of marked) refl free))

-- ---- allocas

module _ (e : Elision) (t : State) (at name : ℕ) (ty : Ty) (align : ℕ)
    (k : StandsAtInstr e t at (Instr.Alloca name ty align)) (mode : IsNotEntering t.top) (blocks : HaveBlocks t)
    (h : HaveCallers e t) where
  abbrev i : Instr
  i = Instr.Alloca name ty align

  abbrev g : Context
  g = framed_context (elided e) t

  abbrev next_block : MemoryBlock
  next_block = blank_block (size_of g.code ty) align (alloca_kind g.function)

  abbrev grown : List MemoryBlock
  grown = t.world.memory ++ next_block ∷ []

  abbrev made : Bool → List MemoryBlock
  made b = if b then end grown (length t.world.memory) else grown

  abbrev work : Bool → Work
  work b = set_memory (set_value (work_of t) name (pointer_to (length t.world.memory))) (made b)

  abbrev slot : Slot
  slot = record { alloca = name; block = length t.world.memory }

  abbrev with_slot : Bool → State
  with_slot b = with_slots (settled t (work b)) (slot ∷ t.top.slots)

  slot_made : (b : Bool) → HaveCallers e (with_slot b)
  slot_made b =
      instr_keeps e t (with_slot b) at i k (λ v. no v) refl (was_itself t.instances)
      (new_frames t next_block blocks b (with_slot b) refl)
      (record { func = refl; block = refl; result = refl; mode = refl; instance = refl; has_left = refl }) refl
      (λ u ne. set_elsewhere t.top.values name u (pointer_to (length t.world.memory)) (λ is. ne (ap Some is)))
      (λ s has. let lt = has.1 in (suc has.0, omega (arith, lt), has.2)) h
    where
      no : (v : Option ℕ) → is_destroy_of v i ≡ false
      no None = refl
      no (Some v) = refl

  by_mode : (b : Bool) (m : Mode) → ((from label : ℕ) → m ≡ Mode.Entering from label → ⊥)
      → HaveCallers e (framed_slot (elided e) (settled t (work b)) slot m)
  by_mode b Mode.Plain still = slot_made b
  by_mode b Mode.Ramp still = slot_made b
  by_mode b Mode.Resumed still = slot_made b
  by_mode b (Mode.GivenRamp frame) still = slot_made b
  by_mode b (Mode.Entering from label) still = absurd (still from label refl)

  aligned : (q b : Bool) → Keep e (framed_act (elided e) t (if q then NewSlot (work b) slot else Stuck Cause.Align))
  aligned true b = by_mode b t.top.mode mode
  aligned false b = tt

  pub allocas_keep : HaveCallers e (framed_step (elided e) t)
  allocas_keep = next_keeps e t at i k h (aligned (is_alignment align) (has_markers g.function name))
