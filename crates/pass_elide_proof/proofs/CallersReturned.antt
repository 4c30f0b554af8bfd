-- Behind returns it stays known what activations have by their calls.
use Rattle.std.proofs.Common.{◌≡◌, ◌∙◌, ◌∷◌, ◌&&◌, ◌==◌, [], ap, Bool, Err, false, List, Ok, Option, refl, Result, subst, sym, true, ℕ, if◌then◌else◌}
use Rattle.std.specs.Prelude.{None, Some, slice_get, slice_set}
use Rattle.pass_elide_proof.proofs.CallersBack.{ret_does, ret_there, value_of}
use Rattle.pass_elide_proof.proofs.CallersEdges.{status_was}
use Rattle.pass_elide_proof.proofs.CallersInstr.{was_itself}
use Rattle.pass_elide_proof.proofs.CallersKnown.{KnownIf, next_known, or_known}
use Rattle.pass_elide_proof.proofs.CallersLinks.{links_back}
use Rattle.pass_elide_proof.proofs.CallersStay.{top_known}
use Rattle.pass_elide_proof.proofs.LeftWindows.{own_there}
use Rattle.pass_elide_proof.specs.Callers.{StandsAtInstr, WasBefore}
use Rattle.pass_elide_proof.specs.CallersStack.{AreCalled, ReturnsApart, StandsAtRet}
use Rattle.pass_elide_proof.specs.Elision.{Elision, elided}
use Rattle.pass_proofs.specs.ir_base.declared.cause.Cause.{Cause}
use Rattle.pass_proofs.specs.ir_base.declared.outcome.Outcome.{Outcome}
use Rattle.pass_proofs.specs.ir_model.Ty.{Ty}
use Rattle.pass_proofs.specs.ir_model.declared.instr.Instr.{Instr}
use Rattle.pass_proofs.specs.ir_model.declared.operand.Arg.{Arg}
use Rattle.pass_proofs.specs.ir_model.declared.operand.Callee.{Callee}
use Rattle.pass_proofs.specs.ir_model.declared.operand.Intrinsic.{Intrinsic}
use Rattle.pass_proofs.specs.run_framed.Framed.{disown_given, framed_advance, framed_finish, framed_next, framed_step, is_stack_block}
use Rattle.pass_proofs.specs.run_memory.Memory.{disown}
use Rattle.pass_proofs.specs.run_memory.declared.pointer.Value.{Value}
use Rattle.pass_proofs.specs.run_source.Source.{after_end, change_own, pop, return, returned, slots_of}
use Rattle.pass_proofs.specs.run_source.State.{or_undefined, own_instance, with_memory}
use Rattle.pass_proofs.specs.run_source.declared.state.Activation.{Activation}
use Rattle.pass_proofs.specs.run_source.declared.state.Instance.{Instance}
use Rattle.pass_proofs.specs.run_source.declared.state.Mode.{Mode}
use Rattle.pass_proofs.specs.run_source.declared.state.State.{State}
use Rattle.pass_proofs.specs.run_source.declared.state.Status.{Status}
use Rattle.pass_proofs.specs.run_step.Results.{and_then}
use Rattle.pass_proofs.specs.run_step.Step.{Fetched, outcome_of, without_slots}
use Rattle.pass_proofs.specs.run_step.declared.world.World.{World}

module _ (e : Elision) (t : State) (h : AreCalled e t) (apart : ReturnsApart e t) where
  pops_known : (world : World) (ys : List Instance)
      → ((number : ℕ) (y : Instance) → slice_get ys number ≡ Some y → WasBefore t.instances number y)
      → (v : Option Value) → KnownIf e (return (record t { world = world; instances = ys }) v)
  pops_known world ys was v = on t.below refl
    where
      over : (o : Outcome)
          → AreCalled e (record (returned (record t { world = world; instances = ys })) { outcome = o })
      over o =
          top_known e t h (record (returned (record t { world = world; instances = ys })) { outcome = o }) refl refl
          refl refl refl was (λ v is. refl)

      ends : (r : Result Outcome Cause) → KnownIf e (and_then r (λ (o : Outcome).
          Ok (record (returned (record t { world = world; instances = ys })) { outcome = o })))
      ends (Err cause) = tt
      ends (Ok o) = over o

      on : (rows : List Activation) → t.below ≡ rows
          → KnownIf e (pop (returned (record t { world = world; instances = ys })) v rows)
      on [] below = ends (outcome_of v)
      on (b ∷ rest) below = links_back e t world ys was v b rest below (apart b rest below) h

  pub rets_known : StandsAtRet e t → AreCalled e (framed_step (elided e) t)
  rets_known k =
      subst (AreCalled e)
      (sym (ap (framed_advance (elided e) t) k.runs
      ∙ (ap (λ (x : Fetched). or_undefined (elided e).given t (framed_next (elided e) t x)) (ret_there e t k)
      ∙ ap (or_undefined (elided e).given t) (ret_does e t k k.value))))
      (or_known e t (return t (value_of e t k k.value)) h
      (pops_known t.world t.instances (was_itself t.instances) (value_of e t k k.value)))

  -- ---- the end of a resumed activation

  abbrev ended : Option (ℕ × Instance) → State
  ended o =
      with_memory (change_own t (λ x. record x { status = Status.Finished }) o)
      (without_slots t.world.memory (slots_of o))

  ends_some : (x : ℕ × Instance) → own_instance t ≡ Some x → (b : Bool)
      → KnownIf e (return (if b then with_memory (ended (Some x)) (disown (ended (Some x)).world.memory x.1.block)
      else ended (Some x)) None)
  ends_some x own b = on b
    where
      was : (number : ℕ) (y : Instance)
          → slice_get (slice_set t.instances x.0 (record x.1 { status = Status.Finished })) number ≡ Some y
          → WasBefore t.instances number y
      was =
          status_was t.instances x.0 x.1 (record x.1 { status = Status.Finished }) (own_there t x.0 x.1 own).1 refl
          refl refl (λ going. absurd (cc))

      on : (b : Bool) → KnownIf e (return (if b then with_memory (ended (Some x))
          (disown (ended (Some x)).world.memory x.1.block) else ended (Some x)) None)
      on true =
          pops_known (record t.world { memory = disown (without_slots t.world.memory x.1.slots) x.1.block })
          (slice_set t.instances x.0 (record x.1 { status = Status.Finished })) was None
      on false =
          pops_known (record t.world { memory = without_slots t.world.memory x.1.slots })
          (slice_set t.instances x.0 (record x.1 { status = Status.Finished })) was None

  finishes : KnownIf e (return (framed_finish t) None)
  finishes = on (own_instance t) refl
    where
      on : (o : Option (ℕ × Instance)) → own_instance t ≡ o → KnownIf e (return (disown_given (ended o) o) None)
      on None own =
          pops_known (record t.world { memory = t.world.memory }) t.instances (was_itself t.instances) None
      on (Some x) own = ends_some x own (is_stack_block (ended (Some x)).world.memory x.1.block && (x.1.start == 0))

  module _ (at : ℕ) (result : Option ℕ) (must_tail : Bool) (ty : Option Ty) (args : List Arg)
      (k : StandsAtInstr e t at (Instr.Call result must_tail ty (Callee.Intrinsic Intrinsic.CoroEnd) args))
      (resumed : t.top.mode ≡ Mode.Resumed) where
    ends : KnownIf e (after_end (if t.top.has_left then t else framed_finish t) result t.top.mode)
    ends =
        subst (λ (mode : Mode). KnownIf e (after_end (if t.top.has_left then t else framed_finish t) result mode))
        (sym resumed) (on t.top.has_left)
      where
        on : (b : Bool) → KnownIf e (return (if b then t else framed_finish t) None)
        on true = pops_known t.world t.instances (was_itself t.instances) None
        on false = finishes

    pub resumed_ends_known : AreCalled e (framed_step (elided e) t)
    resumed_ends_known =
        next_known e t at (Instr.Call result must_tail ty (Callee.Intrinsic Intrinsic.CoroEnd) args) k h ends
