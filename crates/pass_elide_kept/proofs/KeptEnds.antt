-- Keepers stay where a resumed activation ends. The instance that a coro.destroy went on with was freed by then.
use Rattle.std.proofs.Common.{◌≡◌, ◌∙◌, ◌∷◌, ◌&&◌, ◌==◌, ap, Bool, false, List, Option, refl, subst, sym, true, ℕ, if◌then◌else◌}
use Rattle.std.specs.Prelude.{None, Some, slice_get, slice_set}
use Rattle.pass_elide_kept.proofs.KeptEdges.{KeepersIf}
use Rattle.pass_elide_kept.proofs.KeptPopped.{IsBehindADestroy, pops_keep_keepers}
use Rattle.pass_elide_kept.proofs.KeptPushed.{next_kept}
use Rattle.pass_elide_kept.specs.Keepers.{IsOver, KeepersIn, WasFreed}
use Rattle.pass_elide_kept.specs.Kept.{HasKeeper}
use Rattle.pass_elide_kept.specs.Steps.{StandsAtCall}
use Rattle.pass_elide_proof.proofs.CallersBlocks.{KeepsStacks, changed_keeps, disowned_life, stacks_same}
use Rattle.pass_elide_proof.proofs.CallersEdges.{status_was}
use Rattle.pass_elide_proof.proofs.CallersInstr.{was_itself}
use Rattle.pass_elide_proof.proofs.CallersOnward.{destroys_as}
use Rattle.pass_elide_proof.proofs.Facts.{not_both, some_none}
use Rattle.pass_elide_proof.proofs.LeftWindows.{own_again, own_there}
use Rattle.pass_elide_proof.specs.Callers.{WasBefore}
use Rattle.pass_elide_proof.specs.CallersStack.{AreCalled, KeepAllHandles}
use Rattle.pass_elide_proof.specs.Elision.{Elision, elided, function_in}
use Rattle.pass_elide_proof.specs.Invariant.{IsDestroying, AreGivenBy}
use Rattle.pass_elide_proof.specs.OwnSlots.{HaveNoSlots}
use Rattle.pass_elide_proof.proofs.pass_proofs.ir_laws.facts.Lists.{get_within, set_here}
use Rattle.pass_elide_proof.specs.pass_proofs.ir_model.Ty.{Ty}
use Rattle.pass_elide_proof.specs.pass_proofs.ir_model.declared.instr.Instr.{Instr}
use Rattle.pass_elide_proof.specs.pass_proofs.ir_model.declared.operand.Arg.{Arg}
use Rattle.pass_elide_proof.specs.pass_proofs.ir_model.declared.operand.Callee.{Callee}
use Rattle.pass_elide_proof.specs.pass_proofs.ir_model.declared.operand.Intrinsic.{Intrinsic}
use Rattle.pass_elide_proof.specs.pass_proofs.run_agreement.Machines.{IsFine}
use Rattle.pass_elide_proof.specs.pass_proofs.run_framed.Framed.{disown_given, framed_finish, framed_step, is_given, is_stack_block}
use Rattle.pass_elide_proof.specs.pass_proofs.run_memory.Memory.{disown, disowned}
use Rattle.pass_elide_proof.specs.pass_proofs.run_memory.declared.block.MemoryBlock.{MemoryBlock}
use Rattle.pass_elide_proof.specs.pass_proofs.run_memory.declared.pointer.Value.{Value}
use Rattle.pass_elide_proof.specs.pass_proofs.run_source.Source.{after_end, change_own, return, slots_of}
use Rattle.pass_elide_proof.specs.pass_proofs.run_source.State.{is_finished, own_instance, with_memory}
use Rattle.pass_elide_proof.specs.pass_proofs.run_source.declared.state.Activation.{Activation}
use Rattle.pass_elide_proof.specs.pass_proofs.run_source.declared.state.Instance.{Instance}
use Rattle.pass_elide_proof.specs.pass_proofs.run_source.declared.state.Mode.{Mode}
use Rattle.pass_elide_proof.specs.pass_proofs.run_source.declared.state.State.{State}
use Rattle.pass_elide_proof.specs.pass_proofs.run_source.declared.state.Status.{Status}
use Rattle.pass_elide_proof.specs.pass_proofs.run_step.Step.{without_slots}
use Rattle.pass_elide_proof.specs.pass_proofs.run_step.declared.world.Slot.{Slot}

module _ (e : Elision) (z t : State) (at : ℕ) (result : Option ℕ) (must_tail : Bool) (ty : Option Ty)
    (args : List Arg) (k : StandsAtCall e t at Intrinsic.CoroEnd result must_tail ty args)
    (resumed : t.top.mode ≡ Mode.Resumed) (inside : (function_in e t.top.func).coroutine ≡ true)
    (none : HaveNoSlots t) (h : KeepersIn e z t) (ramps : AreGivenBy e t.instances (t.top ∷ t.below))
    (handles : KeepAllHandles e) (links : AreCalled e t)
    (freed : (b : Activation) (rest : List Activation) → t.below ≡ b ∷ rest → IsBehindADestroy e b → (number : ℕ)
    (x : Instance) → slice_get t.instances number ≡ Some x → is_given t.world.memory x ≡ true
    → IsDestroying e x number t.top → WasFreed z number) where
  no_keeper : (y : Instance) (number : ℕ) → HasKeeper e y number t.top None → ⊥
  no_keeper y number c = not_both (function_in e t.top.func).coroutine inside c.site.plain

  no_frame : (frame : Value) (number : ℕ) → t.top.mode ≡ Mode.GivenRamp frame → t.top.instance ≡ Some number
      → Value.Poison ≡ frame
  no_frame frame number mode instance =
      absurd (let no : Mode.Resumed ≡ Mode.GivenRamp frame = sym resumed ∙ mode in cc)

  -- its instance was suspended
  left : t.top.has_left ≡ true → KeepersIf e z (return t None)
  left is =
      pops_keep_keepers e z t h ramps handles links t.world t.instances (was_itself t.instances)
      (stacks_same t.world.memory) no_keeper
      (λ b rest below behind number y there given d. absurd (not_both t.top.has_left is d.stays)) None no_frame

  abbrev ended : Option (ℕ × Instance) → State
  ended o =
      with_memory (change_own t (λ x. record x { status = Status.Finished }) o)
      (without_slots t.world.memory (slots_of o))

  ends_none : own_instance t ≡ None → KeepersIf e z (return (ended None) None)
  ends_none is =
      pops_keep_keepers e z t h ramps handles links (record t.world { memory = t.world.memory }) t.instances
      (was_itself t.instances) (stacks_same t.world.memory) no_keeper
      (λ b rest below behind number y there given d.
      absurd (some_none (own_instance t) (number, y) (own_again t number y d.instance there) is)) None no_frame

  module _ (x : ℕ × Instance) (is : own_instance t ≡ Some x) where
    abbrev over : Instance
    over = record x.1 { status = Status.Finished }

    abbrev all : List Instance
    all = slice_set t.instances x.0 over

    number_is : t.top.instance ≡ Some x.0
    number_is = (own_there t x.0 x.1 is).0

    there : slice_get t.instances x.0 ≡ Some x.1
    there = (own_there t x.0 x.1 is).1

    was : (number : ℕ) (y : Instance) → slice_get all number ≡ Some y → WasBefore t.instances number y
    was = status_was t.instances x.0 x.1 over there refl refl refl (λ going. absurd (cc))

    finished : (number : ℕ) (y : Instance) → slice_get all number ≡ Some y → IsDestroying e y number t.top
        → is_finished y.status ≡ true
    finished number y at d =
        let same : number ≡ x.0 = one number x.0 (sym d.instance ∙ number_is) in
        let last : over ≡ y
        = inner over y (sym (set_here t.instances x.0 over (get_within t.instances x.0 x.1 there))
        ∙ (ap (slice_get all) (sym same) ∙ at)) in
        ap (λ (z : Instance). is_finished z.status) (sym last)
      where
        one : (a b : ℕ) → Some a ≡ Some b → a ≡ b
        one a b e = cc

        inner : (a b : Instance) → Some a ≡ Some b → a ≡ b
        inner a b e = cc

    gone : (b : Activation) (rest : List Activation) → t.below ≡ b ∷ rest → IsBehindADestroy e b → (number : ℕ)
        (y : Instance) (at : slice_get all number ≡ Some y)
        → is_given t.world.memory (was number y at).before ≡ true → IsDestroying e y number t.top → IsOver z number y
    gone b rest below behind number y at given d =
        let old = was number y at in (
          finished number y at d,
          freed b rest below behind number old.before old.there given
              (destroys_as e y old.before number (sym old.coroutine) (sym old.block) (sym old.start) t.top d),
        )

    calm_memory : (change : List MemoryBlock → List MemoryBlock) → KeepsStacks t.world.memory (change t.world.memory)
        → KeepsStacks t.world.memory (change (without_slots t.world.memory x.1.slots))
    calm_memory change same =
        subst (λ (zs : List Slot). KeepsStacks t.world.memory (change (without_slots t.world.memory zs)))
        (sym (none x.0 x.1 there)) same

    ends_some : (b : Bool) → KeepersIf e z (return (if b then with_memory (ended (Some x))
        (disown (ended (Some x)).world.memory x.1.block) else ended (Some x)) None)
    ends_some true =
        pops_keep_keepers e z t h ramps handles links
        (record t.world { memory = disown (without_slots t.world.memory x.1.slots) x.1.block }) all was
        (calm_memory (λ m. disown m x.1.block) (changed_keeps disowned t.world.memory x.1.block disowned_life))
        no_keeper gone None no_frame
    ends_some false =
        pops_keep_keepers e z t h ramps handles links
        (record t.world { memory = without_slots t.world.memory x.1.slots }) all was
        (calm_memory (λ m. m) (stacks_same t.world.memory)) no_keeper gone None no_frame

  finishes : KeepersIf e z (return (framed_finish t) None)
  finishes = on (own_instance t) refl
    where
      on : (o : Option (ℕ × Instance)) → own_instance t ≡ o
          → KeepersIf e z (return (disown_given (ended o) o) None)
      on None is = ends_none is
      on (Some x) is = ends_some x is (is_stack_block (ended (Some x)).world.memory x.1.block && (x.1.start == 0))

  ends : KeepersIf e z (after_end (if t.top.has_left then t else framed_finish t) result t.top.mode)
  ends =
      subst (λ (mode : Mode). KeepersIf e z (after_end (if t.top.has_left then t else framed_finish t) result mode))
      (sym resumed) (on t.top.has_left refl)
    where
      on : (b : Bool) → t.top.has_left ≡ b → KeepersIf e z (return (if b then t else framed_finish t) None)
      on true is = left is
      on false is = finishes

  pub ends_keep_keepers : IsFine (framed_step (elided e) t).outcome → KeepersIn e z (framed_step (elided e) t)
  ends_keep_keepers fine =
      next_kept e z t at (Instr.Call result must_tail ty (Callee.Intrinsic Intrinsic.CoroEnd) args) k fine ends
