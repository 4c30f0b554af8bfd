-- At coro.end of a resumed activation callers of instances stay on the stack. An instance that it destroyed is
-- Finished.
use Rattle.std.proofs.Common.{◌≡◌, ◌∙◌, ◌&&◌, ◌==◌, [], ap, Bool, false, List, Option, refl, subst, sym, true, ℕ, if◌then◌else◌}
use Rattle.std.specs.Prelude.{None, Some, slice_get, slice_set}
use Rattle.pass_elide_proof.proofs.CallersBack.{pops_keep}
use Rattle.pass_elide_proof.proofs.CallersBlocks.{KeepsStacks, changed_keeps, disowned_life, stacks_same}
use Rattle.pass_elide_proof.proofs.CallersEdges.{status_was}
use Rattle.pass_elide_proof.proofs.CallersInstr.{Keep, next_keeps, was_itself}
use Rattle.pass_elide_proof.proofs.LeftWindows.{own_again, own_there}
use Rattle.pass_elide_proof.specs.Callers.{StandsAtInstr, WasBefore}
use Rattle.pass_elide_proof.specs.CallersStack.{AreCalled, KeepAllHandles}
use Rattle.pass_elide_proof.specs.Elision.{Elision, elided, function_in}
use Rattle.pass_elide_proof.specs.Invariant.{HasCaller, HaveCallers, IsDestroying}
use Rattle.pass_elide_proof.specs.OwnSlots.{HaveNoSlots}
use Rattle.pass_elide_proof.specs.Returning.{HaveOwnSlots}
use Rattle.pass_proofs.proofs.ir_laws.facts.Lists.{get_within, set_here}
use Rattle.pass_proofs.specs.ir_model.Ty.{Ty}
use Rattle.pass_proofs.specs.ir_model.declared.instr.Instr.{Instr}
use Rattle.pass_proofs.specs.ir_model.declared.operand.Arg.{Arg}
use Rattle.pass_proofs.specs.ir_model.declared.operand.Callee.{Callee}
use Rattle.pass_proofs.specs.ir_model.declared.operand.Intrinsic.{Intrinsic}
use Rattle.pass_proofs.specs.run_framed.Framed.{disown_given, framed_finish, framed_step, is_stack_block}
use Rattle.pass_proofs.specs.run_memory.Memory.{disown, disowned}
use Rattle.pass_proofs.specs.run_memory.declared.block.MemoryBlock.{MemoryBlock}
use Rattle.pass_proofs.specs.run_memory.declared.pointer.Value.{Value}
use Rattle.pass_proofs.specs.run_source.Source.{after_end, change_own, return, slots_of}
use Rattle.pass_proofs.specs.run_source.State.{is_finished, own_instance, with_memory}
use Rattle.pass_proofs.specs.run_source.declared.state.Instance.{Instance}
use Rattle.pass_proofs.specs.run_source.declared.state.Mode.{Mode}
use Rattle.pass_proofs.specs.run_source.declared.state.State.{State}
use Rattle.pass_proofs.specs.run_source.declared.state.Status.{Status}
use Rattle.pass_proofs.specs.run_step.Step.{without_slots}
use Rattle.pass_proofs.specs.run_step.declared.world.Slot.{Slot}

yes_no : (p : Bool) → p ≡ true → p ≡ false → ⊥
yes_no true y n = absurd (cc)
yes_no false y n = absurd (cc)

module _ (e : Elision) (t : State) (at : ℕ) (result : Option ℕ) (must_tail : Bool) (ty : Option Ty)
    (args : List Arg)
    (k : StandsAtInstr e t at (Instr.Call result must_tail ty (Callee.Intrinsic Intrinsic.CoroEnd) args))
    (resumed : t.top.mode ≡ Mode.Resumed) (inside : (function_in e t.top.func).coroutine ≡ true)
    (none : HaveNoSlots t) (h : HaveCallers e t) (handles : KeepAllHandles e) (own : HaveOwnSlots t)
    (links : AreCalled e t) where
  no_caller : (y : Instance) (number : ℕ) → HasCaller e t.world.memory y number t.top [] → ⊥
  no_caller y number c = yes_no (function_in e t.top.func).coroutine inside c.site.plain

  no_frame : (frame : Value) (number : ℕ) → t.top.mode ≡ Mode.GivenRamp frame → t.top.instance ≡ Some number
      → Value.Poison ≡ frame
  no_frame frame number mode instance =
      absurd (let no : Mode.Resumed ≡ Mode.GivenRamp frame = sym resumed ∙ mode in cc)

  -- its instance was suspended
  left : t.top.has_left ≡ true → Keep e (return t None)
  left is =
      pops_keep e t h handles own links t.world t.instances (was_itself t.instances) (stacks_same t.world.memory)
      no_caller (λ number y there d. absurd (yes_no t.top.has_left is d.stays)) None no_frame

  abbrev ended : Option (ℕ × Instance) → State
  ended o =
      with_memory (change_own t (λ x. record x { status = Status.Finished }) o)
      (without_slots t.world.memory (slots_of o))

  some_none : {A : Type 0} (o : Option A) (x : A) → o ≡ None → o ≡ Some x → ⊥
  some_none None x n y = absurd (cc)
  some_none (Some z) x n y = absurd (cc)

  ends_none : own_instance t ≡ None → Keep e (return (ended None) None)
  ends_none is =
      pops_keep e t h handles own links (record t.world { memory = t.world.memory }) t.instances
      (was_itself t.instances) (stacks_same t.world.memory) no_caller
      (λ number y there d. absurd (some_none (own_instance t) (number, y) is (own_again t number y d.instance there)))
      None no_frame

  module _ (x : ℕ × Instance) (is : own_instance t ≡ Some x) where
    abbrev over : Instance
    over = record x.1 { status = Status.Finished }

    abbrev all : List Instance
    all = slice_set t.instances x.0 over

    number_is : t.top.instance ≡ Some x.0
    number_is = (own_there t x.0 x.1 is).0

    there : slice_get t.instances x.0 ≡ Some x.1
    there = (own_there t x.0 x.1 is).1

    was : (number : ℕ) (y : Instance) → slice_get all number ≡ Some y → WasBefore t.instances number y
    was = status_was t.instances x.0 x.1 over there refl refl refl (λ going. absurd (cc))

    finished : (number : ℕ) (y : Instance) → slice_get all number ≡ Some y → IsDestroying e y number t.top
        → is_finished y.status ≡ true
    finished number y at d =
        let same : number ≡ x.0 = one number x.0 (sym d.instance ∙ number_is) in
        let last : over ≡ y
        = inner over y (sym (set_here t.instances x.0 over (get_within t.instances x.0 x.1 there))
        ∙ (ap (slice_get all) (sym same) ∙ at)) in
        ap (λ (z : Instance). is_finished z.status) (sym last)
      where
        one : (a b : ℕ) → Some a ≡ Some b → a ≡ b
        one a b e = cc

        inner : (a b : Instance) → Some a ≡ Some b → a ≡ b
        inner a b e = cc

    calm_memory : (change : List MemoryBlock → List MemoryBlock) → KeepsStacks t.world.memory (change t.world.memory)
        → KeepsStacks t.world.memory (change (without_slots t.world.memory x.1.slots))
    calm_memory change same =
        subst (λ (zs : List Slot). KeepsStacks t.world.memory (change (without_slots t.world.memory zs)))
        (sym (none x.0 x.1 there)) same

    ends_some : (b : Bool) → Keep e (return (if b then with_memory (ended (Some x))
        (disown (ended (Some x)).world.memory x.1.block) else ended (Some x)) None)
    ends_some true =
        pops_keep e t h handles own links
        (record t.world { memory = disown (without_slots t.world.memory x.1.slots) x.1.block }) all was
        (calm_memory (λ m. disown m x.1.block) (changed_keeps disowned t.world.memory x.1.block disowned_life))
        no_caller finished None no_frame
    ends_some false =
        pops_keep e t h handles own links (record t.world { memory = without_slots t.world.memory x.1.slots }) all was
        (calm_memory (λ m. m) (stacks_same t.world.memory)) no_caller finished None no_frame

  finishes : Keep e (return (framed_finish t) None)
  finishes = on (own_instance t) refl
    where
      on : (o : Option (ℕ × Instance)) → own_instance t ≡ o → Keep e (return (disown_given (ended o) o) None)
      on None is = ends_none is
      on (Some x) is = ends_some x is (is_stack_block (ended (Some x)).world.memory x.1.block && (x.1.start == 0))

  ends : Keep e (after_end (if t.top.has_left then t else framed_finish t) result t.top.mode)
  ends =
      subst (λ (mode : Mode). Keep e (after_end (if t.top.has_left then t else framed_finish t) result mode))
      (sym resumed) (on t.top.has_left refl)
    where
      on : (b : Bool) → t.top.has_left ≡ b → Keep e (return (if b then t else framed_finish t) None)
      on true is = left is
      on false is = finishes

  pub resumed_ends_keep : HaveCallers e (framed_step (elided e) t)
  resumed_ends_keep =
      next_keeps e t at (Instr.Call result must_tail ty (Callee.Intrinsic Intrinsic.CoroEnd) args) k h ends
