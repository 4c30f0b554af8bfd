-- A plain run that is never undefined gives no stack block to a deallocator.
use Rattle.std.proofs.Common.{◌≡◌, ℕ, ◌+◌, Bool, true, false, Some, Result, Ok, Err, List, refl, ap, ◌∙◌, subst}
use Rattle.std.specs.Prelude.{not, slice_get, if◌then◌else◌, ◌&&◌, ◌==◌}
use Rattle.compiler.proofs.run_agreement.Runs.{iterate-add}
use Rattle.compiler.specs.run_agreement.Agreements.{NeverUndefined}
use Rattle.compiler.specs.run_agreement.Machines.{IsFine, at, iterate, state_at}
use Rattle.compiler.specs.run_memory.Memory.{is_killed, is_unkilled, same_kind}
use Rattle.compiler.specs.run_memory.declared.block.Kind.{Kind}
use Rattle.compiler.specs.run_memory.declared.block.MemoryBlock.{MemoryBlock}
use Rattle.compiler.specs.run_memory.declared.pointer.Offset.{Offset}
use Rattle.compiler.specs.run_memory.declared.pointer.Pointer.{Pointer}
use Rattle.compiler.specs.run_memory.declared.pointer.Value.{Value}
use Rattle.compiler.specs.ir_base.declared.cause.Cause.{Cause}
use Rattle.compiler.specs.ir_base.declared.outcome.Outcome.{Outcome}
use Rattle.compiler_theorem.specs.theorem.Elision.{GivesNoStackBack, next_action, plain_given}
use Rattle.compiler_theorem.specs.theorem.Entries.{Run}
use Rattle.compiler_theorem.specs.theorem.Lowered.{plain_run}
use Rattle.compiler.specs.ir_model.declared.module.Module.{Module}
use Rattle.compiler.specs.run_step.Results.{and_then}
use Rattle.compiler.specs.run_step.Step.{Action, Deallocate, deallocated, set_memory}
use Rattle.compiler.specs.run_plain.Plain.{PlainGiven, plain_act, plain_advance, plain_or_undefined, plain_settled, plain_step, plain_work}
use Rattle.compiler.specs.run_plain.declared.state.PlainState.{PlainState}

refused_by : {A : Type 0} (c d : Bool) (cause : Cause) (rest : Result A Cause) → d ≡ false
    → (if not (c && d) then Err cause else rest) ≡ Err cause
refused_by true true cause rest e = absurd (cc)
refused_by true false cause rest e = refl
refused_by false d cause rest e = refl

refused : (m : List MemoryBlock) (b : ℕ) (o : Offset) (x : MemoryBlock) → slice_get m b ≡ Some x → x.kind ≡ Kind.Stack
    → deallocated m (Value.Ptr (Pointer.At b o)) ≡ Err Cause.Free
refused m b o x there stack =
    refused_by (o.bits == 0) (is_unkilled Kind.Allocator (slice_get m b)) Cause.Free _
    (ap (is_unkilled Kind.Allocator) there ∙ ap (λ (k : Kind). same_kind k Kind.Allocator && not (is_killed x.life))
    stack)

module _ (g : PlainGiven) (s : PlainState) (runs : s.outcome ≡ Outcome.Running) where
  stuck : (action : Action) (b : ℕ) (o : Offset) (x : MemoryBlock) → action ≡ Deallocate (Value.Ptr (Pointer.At b o))
      → slice_get s.world.memory b ≡ Some x → x.kind ≡ Kind.Stack
      → IsFine (plain_or_undefined g s (plain_act g s action)).outcome → ⊥
  stuck action b o x gives there stack fine = on (deallocated s.world.memory (Value.Ptr (Pointer.At b o)))
      (refused s.world.memory b o x there stack) (subst (λ (a : Action). IsFine
      (plain_or_undefined g s (plain_act g s a)).outcome) gives fine)
    where
      on : (r : Result (List MemoryBlock) Cause) → r ≡ Err Cause.Free
          → IsFine (plain_or_undefined g s (and_then r (λ memory. Ok
          (plain_settled s (set_memory (plain_work s) memory))))).outcome → ⊥
      on (Err cause) e f = f
      on (Ok memory) e f = absurd (cc)

pub gives_no_stack_back : (m : Module) (r : Run) (other : ℕ) → NeverUndefined (at (plain_run m r other))
    → GivesNoStackBack m r other
gives_no_stack_back m r other never n b o x runs gives there stack =
    let s : PlainState = state_at (plain_run m r other) n in
    let g : PlainGiven = plain_given m r.answers in
    let next : iterate (plain_step g) (n + 1) (plain_run m r other).start ≡ plain_step g s = iterate-add
    (plain_step g) n 1 (plain_run m r other).start in
    let fine : IsFine (plain_step g s).outcome = subst (λ (t : PlainState). IsFine t.outcome) next (never (n + 1)) in
    stuck g s runs (next_action m r.answers s) b o x gives there stack
    (subst (λ (t : PlainState). IsFine t.outcome) (ap (plain_advance g s) runs) fine)
