-- So it is where the instruction is done, and where it makes or frees a block.
use Rattle.std.proofs.Common.{◌≡◌, ◌++◌, ◌∙◌, ◌∷◌, [], ap, arith, Bool, Err, false, inl, List, length, Ok, Option, refl, Result, subst, suc, sym, true, ℕ, if◌then◌else◌}
use Rattle.std.specs.Prelude.{None, Some, slice_get}
use Rattle.pass_elide_kept.proofs.Moves.{MovesBy, MovesIf, next_moves, next_on}
use Rattle.pass_elide_proof.proofs.CallersBlocks.{KeepsStacks, KeptIf, changed_keeps, disowned_life, freed_keeps, frames_kept, grown_keeps, new_frames, refilled_keeps, stack_with, stacks_same, stacks_then}
use Rattle.pass_elide_proof.proofs.CallersEdges.{status_was}
use Rattle.pass_elide_proof.proofs.CallersInstr.{fetched_at, was_itself}
use Rattle.pass_elide_proof.proofs.CallersValues.{SetsOnly, result_elsewhere, sets_only}
use Rattle.pass_elide_proof.proofs.LastFound.{found_there}
use Rattle.pass_elide_proof.proofs.Modules.{finds_alike}
use Rattle.pass_elide_proof.proofs.OwnPlaces.{acts}
use Rattle.pass_elide_proof.specs.Callers.{HaveBlocks, IsNotEntering, StandsAtDone, StandsAtInstr, WasBefore}
use Rattle.pass_elide_proof.specs.Elision.{Elision, elided}
use Rattle.pass_elide_proof.specs.OwnSlots.{HaveNoSlots}
use Rattle.pass_elide_proof.proofs.pass_proofs.run_laws.embedded.Refills.{step_only}
use Rattle.pass_elide_proof.proofs.pass_proofs.run_laws.transfer.Sets.{set_elsewhere}
use Rattle.pass_elide_proof.specs.pass_proofs.ir_base.declared.cause.Cause.{Cause}
use Rattle.pass_elide_proof.specs.pass_proofs.ir_model.Layout.{size_of}
use Rattle.pass_elide_proof.specs.pass_proofs.ir_model.Ty.{Ty}
use Rattle.pass_elide_proof.specs.pass_proofs.ir_model.declared.instr.Instr.{Instr}
use Rattle.pass_elide_proof.specs.pass_proofs.ir_model.declared.operand.Allocator.{Allocator}
use Rattle.pass_elide_proof.specs.pass_proofs.ir_model.declared.operand.Arg.{Arg}
use Rattle.pass_elide_proof.specs.pass_proofs.ir_model.declared.operand.Callee.{Callee}
use Rattle.pass_elide_proof.specs.pass_proofs.ir_parts.Contents.{result_of}
use Rattle.pass_elide_proof.specs.pass_proofs.run_agreement.Machines.{IsFine}
use Rattle.pass_elide_proof.specs.pass_proofs.run_framed.Framed.{framed_act, framed_context, framed_next, framed_slot, framed_step, is_stack_block}
use Rattle.pass_elide_proof.specs.pass_proofs.run_laws.embedded.Refilled.{AreRefilled, OnlyRefills}
use Rattle.pass_elide_proof.specs.pass_proofs.run_laws.memory.Standing.{blank_block}
use Rattle.pass_elide_proof.specs.pass_proofs.run_memory.Memory.{disown, disowned, end}
use Rattle.pass_elide_proof.specs.pass_proofs.run_memory.declared.block.Kind.{Kind}
use Rattle.pass_elide_proof.specs.pass_proofs.run_memory.declared.block.MemoryBlock.{MemoryBlock}
use Rattle.pass_elide_proof.specs.pass_proofs.run_memory.declared.pointer.Pointer.{Pointer}
use Rattle.pass_elide_proof.specs.pass_proofs.run_memory.declared.pointer.Value.{Value}
use Rattle.pass_elide_proof.specs.pass_proofs.run_source.Source.{deallocate, if_let_go, let_go, may_be_freed}
use Rattle.pass_elide_proof.specs.pass_proofs.run_source.State.{began_at, instance_at, next, settled, with_memory, with_slots, work_of}
use Rattle.pass_elide_proof.specs.pass_proofs.run_source.declared.state.Instance.{Instance}
use Rattle.pass_elide_proof.specs.pass_proofs.run_source.declared.state.Mode.{Mode}
use Rattle.pass_elide_proof.specs.pass_proofs.run_source.declared.state.State.{State}
use Rattle.pass_elide_proof.specs.pass_proofs.run_step.Results.{and_then}
use Rattle.pass_elide_proof.specs.pass_proofs.run_step.Step.{AtInstr, Context, Done, NewSlot, Stuck, Work, alloca_kind, allocated, deallocated, has_markers, is_alignment, set_memory, set_value, with_length, without_slots}
use Rattle.pass_elide_proof.specs.pass_proofs.run_step.Values.{address, arg_values, nth, pointer_to}
use Rattle.pass_elide_proof.specs.pass_proofs.run_step.declared.world.Slot.{Slot}

-- ---- what is done

pub done_moves : (e : Elision) (t : State) (at : ℕ) (i : Instr) (w : Work) → StandsAtDone e t at i w
    → MovesBy e t (framed_step (elided e) t) i
done_moves e t at i w k =
    let ctx = framed_context (elided e) t in
    let refills : AreRefilled t.world.memory w.world.memory
    = subst (OnlyRefills t.world.memory) k.does (step_only ctx (work_of t) (AtInstr i) k.no_slot) in
    subst (λ (u : State). MovesBy e t u i)
    (sym (acts (elided e) t (settled t w) i (Done w) k.place.runs (fetched_at e t at i k.place)
    (λ n is. (finds_alike e).ramps n ∙ k.no_ramp n is) k.does refl))
    (record {
      below = refl;
      instances = was_itself t.instances;
      frames = frames_kept t (settled t w) (refilled_keeps t.world.memory w.world.memory refills);
      func = refl;
      block = refl;
      result = refl;
      mode = refl;
      instance = refl;
      left = inl refl;
      next = refl;
      values = subst (SetsOnly ctx (work_of t) (result_of i)) k.does (sets_only ctx (work_of t) i);
      slots = λ s has. has;
    })

-- ---- allocators

module _ (e : Elision) (t : State) (at : ℕ) (a : Allocator) (result : Option ℕ) (must_tail : Bool) (ty : Option Ty)
    (args : List Arg) (none : HaveNoSlots t) where
  abbrev i : Instr
  i = Instr.Call result must_tail ty (Callee.Allocator a) args

  allocated_moves : (v : Value) → MovesIf e t (Instr.Call result must_tail ty (Callee.Allocator a) args)
      (framed_act (elided e) t (with_length v (λ n. Done (allocated (work_of t) result n))))
  allocated_moves (Value.Int x) = record {
    below = refl;
    instances = was_itself t.instances;
    frames = frames_kept t (settled t (allocated (work_of t) result x.bits))
        (grown_keeps t.world.memory (blank_block x.bits 16 Kind.Allocator) refl);
    func = refl;
    block = refl;
    result = refl;
    mode = refl;
    instance = refl;
    left = inl refl;
    next = refl;
    values = λ v ne. result_elsewhere t.top.values result (pointer_to (length t.world.memory)) v ne;
    slots = λ s has. has;
  }
  allocated_moves Value.Poison = tt
  allocated_moves (Value.Ptr p) = tt

  -- ---- frees

  found : (p : Value) (x : ℕ × Instance) → instance_at t.instances p ≡ Some x
      → slice_get t.instances x.0 ≡ Some x.1
  found (Value.Ptr (Pointer.At b o)) x is = (found_there (began_at b o.bits) t.instances x is).0
  found (Value.Ptr Pointer.Null) x is = absurd (cc)
  found (Value.Ptr (Pointer.Func g)) x is = absurd (cc)
  found Value.Poison x is = absurd (cc)
  found (Value.Int w) x is = absurd (cc)

  abbrev after : Value → State → Result State Cause
  after p z = and_then (deallocated z.world.memory p) (λ memory. Ok (next (with_memory z memory)))

  if_freed : (p : Value) (z : State) → z.top ≡ t.top → z.below ≡ t.below
      → ((b : ℕ) → is_stack_block z.world.memory b ≡ is_stack_block t.world.memory b)
      → KeepsStacks t.world.memory z.world.memory
      → ((number : ℕ) (y : Instance) → slice_get z.instances number ≡ Some y → WasBefore t.instances number y)
      → MovesIf e t (Instr.Call result must_tail ty (Callee.Allocator a) args) (after p z)
  if_freed p z top below same stacks was = by (deallocated z.world.memory p) (freed_keeps z.world.memory p)
    where
      by : (r : Result (List MemoryBlock) Cause) → KeptIf z.world.memory r
          → MovesIf e t i (and_then r (λ memory. Ok (next (with_memory z memory))))
      by (Err cause) kept = tt
      by (Ok memory) kept =
          next_on e t i (with_memory z memory) top below
          (frames_kept t (with_memory z memory) (stacks_then t.world.memory z.world.memory memory same stacks kept)) was

  deallocates_move : (p : Value)
      → MovesIf e t (Instr.Call result must_tail ty (Callee.Allocator a) args) (deallocate t p)
  deallocates_move p = on (instance_at t.instances p) refl
    where
      gone : (x : ℕ × Instance) → instance_at t.instances p ≡ Some x → MovesIf e t i (after p (let_go t x.0 x.1))
      gone x is =
          if_freed p (let_go t x.0 x.1) refl refl
          (λ b. stack_with disowned (λ y. refl) (without_slots t.world.memory x.1.slots) x.1.block b
          ∙ ap (λ (zs : List Slot). is_stack_block (without_slots t.world.memory zs) b) empty)
          (subst (λ (zs : List Slot). KeepsStacks t.world.memory (disown (without_slots t.world.memory zs)
          x.1.block)) (sym empty) (changed_keeps disowned t.world.memory x.1.block disowned_life))
          (status_was t.instances x.0 x.1 (record x.1 { freed = true }) (found p x is) refl refl refl
          (λ going. going))
        where
          empty : x.1.slots ≡ []
          empty = none x.0 x.1 (found p x is)

      still : MovesIf e t i (after p t)
      still = if_freed p t refl refl (λ b. refl) (stacks_same t.world.memory) (was_itself t.instances)

      by : (x : ℕ × Instance) → instance_at t.instances p ≡ Some x → (b : Bool)
          → MovesIf e t i (after p (if b then let_go t x.0 x.1 else t))
      by x is true = gone x is
      by x is false = still

      on : (o : Option (ℕ × Instance)) → instance_at t.instances p ≡ o → MovesIf e t i (after p (if_let_go t o))
      on None is = still
      on (Some x) is = by x is (may_be_freed x.1)

pub allocators_move : (e : Elision) (t : State) (at : ℕ) (a : Allocator) (result : Option ℕ) (must_tail : Bool)
    (ty : Option Ty) (args : List Arg) → HaveNoSlots t → IsFine (framed_step (elided e) t).outcome
    → StandsAtInstr e t at (Instr.Call result must_tail ty (Callee.Allocator a) args)
    → MovesBy e t (framed_step (elided e) t) (Instr.Call result must_tail ty (Callee.Allocator a) args)
allocators_move e t at a result must_tail ty args none fine k =
    next_moves e t (Instr.Call result must_tail ty (Callee.Allocator a) args) at k fine (by a)
  where
    by : (a : Allocator) → MovesIf e t (Instr.Call result must_tail ty (Callee.Allocator a) args)
        (framed_next (elided e) t (AtInstr (Instr.Call result must_tail ty (Callee.Allocator a) args)))
    by Allocator.Malloc =
        allocated_moves e t at Allocator.Malloc result must_tail ty args none
        (nth (arg_values (elided e).given.code t.top.values args) 0)
    by Allocator.Znwm =
        allocated_moves e t at Allocator.Znwm result must_tail ty args none
        (nth (arg_values (elided e).given.code t.top.values args) 0)
    by Allocator.Free =
        deallocates_move e t at Allocator.Free result must_tail ty args none
        (address (nth (arg_values (elided e).given.code t.top.values args) 0))
    by Allocator.ZdlPv =
        deallocates_move e t at Allocator.ZdlPv result must_tail ty args none
        (address (nth (arg_values (elided e).given.code t.top.values args) 0))
    by Allocator.ZdlPvm =
        deallocates_move e t at Allocator.ZdlPvm result must_tail ty args none
        (address (nth (arg_values (elided e).given.code t.top.values args) 0))

-- ---- allocas

module _ (e : Elision) (t : State) (at name : ℕ) (ty : Ty) (align : ℕ) (mode : IsNotEntering t.top)
    (blocks : HaveBlocks t) where
  abbrev j : Instr
  j = Instr.Alloca name ty align

  abbrev g : Context
  g = framed_context (elided e) t

  abbrev next_block : MemoryBlock
  next_block = blank_block (size_of g.code ty) align (alloca_kind g.function)

  abbrev grown : List MemoryBlock
  grown = t.world.memory ++ next_block ∷ []

  abbrev made : Bool → List MemoryBlock
  made b = if b then end grown (length t.world.memory) else grown

  abbrev work : Bool → Work
  work b = set_memory (set_value (work_of t) name (pointer_to (length t.world.memory))) (made b)

  abbrev slot : Slot
  slot = record { alloca = name; block = length t.world.memory }

  abbrev with_slot : Bool → State
  with_slot b = with_slots (settled t (work b)) (slot ∷ t.top.slots)

  slot_moves : (b : Bool) → MovesBy e t (with_slot b) (Instr.Alloca name ty align)
  slot_moves b = record {
    below = refl;
    instances = was_itself t.instances;
    frames = new_frames t next_block blocks b (with_slot b) refl;
    func = refl;
    block = refl;
    result = refl;
    mode = refl;
    instance = refl;
    left = inl refl;
    next = refl;
    values = λ v ne. set_elsewhere t.top.values name v (pointer_to (length t.world.memory)) (λ is. ne (ap Some is));
    slots = λ s has. let lt = has.1 in (suc has.0, omega (arith, lt), has.2);
  }

  by_mode : (b : Bool) (m : Mode) → ((from label : ℕ) → m ≡ Mode.Entering from label → ⊥)
      → MovesBy e t (framed_slot (elided e) (settled t (work b)) slot m) (Instr.Alloca name ty align)
  by_mode b Mode.Plain still = slot_moves b
  by_mode b Mode.Ramp still = slot_moves b
  by_mode b Mode.Resumed still = slot_moves b
  by_mode b (Mode.GivenRamp frame) still = slot_moves b
  by_mode b (Mode.Entering from label) still = absurd (still from label refl)

  aligned : (q b : Bool) → MovesIf e t (Instr.Alloca name ty align)
      (framed_act (elided e) t (if q then NewSlot (work b) slot else Stuck Cause.Align))
  aligned true b = by_mode b t.top.mode mode
  aligned false b = tt

  pub allocas_move : IsFine (framed_step (elided e) t).outcome → StandsAtInstr e t at (Instr.Alloca name ty align)
      → MovesBy e t (framed_step (elided e) t) (Instr.Alloca name ty align)
  allocas_move fine k =
      next_moves e t (Instr.Alloca name ty align) at k fine (aligned (is_alignment align) (has_markers g.function name))
