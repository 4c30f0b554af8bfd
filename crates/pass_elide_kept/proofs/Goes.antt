-- What a step of the run that gives frames does, where it isn't undefined.
use Rattle.std.proofs.Common.{◌≡◌, ◌∙◌, ◌∷◌, ap, sym, refl, subst, arith, ℕ, Bool, true, false, List, [], length, Option, Result, if◌then◌else◌}
use Rattle.std.specs.Prelude.{None, Some, Ok, Err, unwrap_or}
use Rattle.pass_elide_proof.specs.pass_proofs.ir_base.declared.cause.Cause.{Cause}
use Rattle.pass_elide_proof.specs.pass_proofs.ir_base.declared.name.Name.{Name}
use Rattle.pass_elide_proof.specs.pass_proofs.ir_base.declared.outcome.Outcome.{Outcome}
use Rattle.pass_elide_proof.specs.pass_proofs.ir_model.Ty.{int}
use Rattle.pass_elide_proof.specs.pass_proofs.ir_model.declared.instr.Instr.{Instr}
use Rattle.pass_elide_proof.specs.pass_proofs.ir_model.declared.instr.Terminator.{Terminator}
use Rattle.pass_elide_proof.specs.pass_proofs.ir_model.declared.operand.Callee.{Callee}
use Rattle.pass_elide_proof.specs.pass_proofs.run_agreement.Machines.{IsFine}
use Rattle.pass_elide_proof.specs.pass_proofs.run_framed.Framed.{FramedGiven, enter_given, framed_act, framed_advance, framed_context, framed_next, framed_step, given_ramp}
use Rattle.pass_elide_proof.specs.pass_proofs.run_laws.changed.Changed.{callee_at}
use Rattle.pass_elide_proof.specs.pass_proofs.run_memory.declared.pointer.Value.{Value}
use Rattle.pass_elide_proof.specs.pass_proofs.run_source.Source.{pop, returned}
use Rattle.pass_elide_proof.specs.pass_proofs.run_source.State.{function_of, or_undefined, work_of}
use Rattle.pass_elide_proof.specs.pass_proofs.run_source.declared.state.Activation.{Activation}
use Rattle.pass_elide_proof.specs.pass_proofs.run_source.declared.state.State.{State}
use Rattle.pass_elide_proof.specs.pass_proofs.run_step.Values.{arg_value, arg_values}
use Rattle.pass_elide_proof.specs.pass_proofs.run_step.Step.{Action, AtInstr, AtTerm, Coro, Context, Deallocate, Done, Enter, Fetched, GoTo, NewSlot, Return, Stuck, Work, action_of, branch, done, fetch, switch, term_action, value_at}

-- ---- a step

pub step_is : (g : FramedGiven) (t : State) (x : Fetched) → t.outcome ≡ Outcome.Running
    → fetch (function_of g.given t) t.top.block t.top.at ≡ x
    → framed_step g t ≡ or_undefined g.given t (framed_next g t x)
step_is g t x runs there =
    ap (framed_advance g t) runs ∙ ap (λ (y : Fetched). or_undefined g.given t (framed_next g t y)) there

-- ---- what is done, or undefined

abbrev pub IsDoneOrStuck : Action → Type 0
IsDoneOrStuck (Done w) = Unit {0}
IsDoneOrStuck (Stuck cause) = Unit {0}
IsDoneOrStuck _ = ⊥

pub done_or_stuck : {A : Type 0} (f : A → Work) (r : Result A Cause) → IsDoneOrStuck (done f r)
done_or_stuck f (Err cause) = tt
done_or_stuck f (Ok a) = tt

pub if_done : (b : Bool) (cause : Cause) (a : Action) → IsDoneOrStuck a → IsDoneOrStuck (if b then a else Stuck cause)
if_done true cause a h = h
if_done false cause a h = tt

pub done_fine : (g : FramedGiven) (t : State) (a : Action) → IsDoneOrStuck a
    → IsFine (or_undefined g.given t (framed_act g t a)).outcome → (w : Work) × (a ≡ Done w)
done_fine g t (Done w) ok fine = (w, refl)
done_fine g t (Stuck cause) ok fine = absurd fine
done_fine g t (NewSlot w slot) ok fine = absurd ok
done_fine g t (Enter func args result must_tail) ok fine = absurd ok
done_fine g t (Coro i args result) ok fine = absurd ok
done_fine g t (Deallocate p) ok fine = absurd ok
done_fine g t (GoTo label) ok fine = absurd ok
done_fine g t (Return v) ok fine = absurd ok

-- ---- where a terminator goes

abbrev pub IsTermAction : Action → Type 0
IsTermAction (GoTo label) = Unit {0}
IsTermAction (Return v) = Unit {0}
IsTermAction (Stuck cause) = Unit {0}
IsTermAction _ = ⊥

term_acts : (c : Context) (w : Work) (term : Terminator) → IsTermAction (term_action c w term)
term_acts c w (Terminator.Jump label) = tt
term_acts c w (Terminator.Branch x one other) = by (value_at c w (int 1) x)
  where
    by : (v : Value) → IsTermAction (branch v one other)
    by (Value.Int n) = tt
    by Value.Poison = tt
    by (Value.Ptr p) = tt
term_acts c w (Terminator.Switch arg default cases) = by (arg_value c.code w.values arg)
  where
    by : (v : Value) → IsTermAction (switch c.code v default cases)
    by (Value.Int n) = tt
    by Value.Poison = tt
    by (Value.Ptr p) = tt
term_acts c w (Terminator.Ret None) = tt
term_acts c w (Terminator.Ret (Some arg)) = tt
term_acts c w Terminator.Unreachable = tt

-- where a return leads fewer activations are below, or the run is over
module _ (g : FramedGiven) (t : State) where
  abbrev after : Action → State
  after a = or_undefined g.given t (framed_act g t a)

  popped : (v : Option Value) (rows : List Activation)
      → (or_undefined g.given t (pop (returned t) v rows)).outcome ≡ Outcome.Running
      → length (or_undefined g.given t (pop (returned t) v rows)).below ≡ length rows → ⊥
  popped None [] runs same = absurd (cc)
  popped (Some (Value.Int x)) [] runs same = absurd (cc)
  popped (Some Value.Poison) [] runs same = absurd (cc)
  popped (Some (Value.Ptr p)) [] runs same = absurd (cc)
  popped v (b ∷ rows) runs same = absurd (omega (arith, same))

  goes_by : (a : Action) → IsTermAction a → (after a).outcome ≡ Outcome.Running
      → length (after a).below ≡ length t.below → (label : ℕ) × (a ≡ GoTo label)
  goes_by (GoTo label) ok runs same = (label, refl)
  goes_by (Return v) ok runs same = absurd (popped v t.below runs same)
  goes_by (Stuck cause) ok runs same = absurd (cc)
  goes_by (Done w) ok runs same = absurd ok
  goes_by (NewSlot w slot) ok runs same = absurd ok
  goes_by (Enter func args result must_tail) ok runs same = absurd ok
  goes_by (Coro i args result) ok runs same = absurd ok
  goes_by (Deallocate p) ok runs same = absurd ok

  -- the end of a block from which no activation returns
  pub goes_to : (term : Terminator) → t.outcome ≡ Outcome.Running
      → fetch (function_of g.given t) t.top.block t.top.at ≡ AtTerm term
      → (framed_step g t).outcome ≡ Outcome.Running → length (framed_step g t).below ≡ length t.below
      → (label : ℕ) × (term_action (framed_context g t) (work_of t) term ≡ GoTo label)
  goes_to term runs there fine same =
      let is = step_is g t (AtTerm term) runs there in
      goes_by (term_action (framed_context g t) (work_of t) term) (term_acts (framed_context g t) (work_of t) term)
      (sym (ap (λ (u : State). u.outcome) is) ∙ fine)
      (sym (ap (λ (u : State). length u.below) is) ∙ same)

  -- an instruction that is done, or undefined
  pub does : (i : Instr) → t.outcome ≡ Outcome.Running
      → fetch (function_of g.given t) t.top.block t.top.at ≡ AtInstr i
      → ((n : Name) → callee_at (AtInstr i) ≡ Some n → given_ramp g.given.code n ≡ None)
      → IsDoneOrStuck (action_of (framed_context g t) (work_of t) (AtInstr i))
      → IsFine (framed_step g t).outcome
      → (w : Work) × (action_of (framed_context g t) (work_of t) (AtInstr i) ≡ Done w)
  does i runs there none ok fine =
      done_fine g t (action_of (framed_context g t) (work_of t) (AtInstr i)) ok
      (subst (λ (u : State). IsFine u.outcome) (step_is g t (AtInstr i) runs there ∙ given_none i none) fine)
    where
      given_none : (i : Instr) → ((n : Name) → callee_at (AtInstr i) ≡ Some n → given_ramp g.given.code n ≡ None)
          → or_undefined g.given t (framed_next g t (AtInstr i))
          ≡ after (action_of (framed_context g t) (work_of t) (AtInstr i))
      given_none (Instr.Call result must_tail ty (Callee.Named n) args) h =
          ap (λ (o : Option (Result State Cause)). or_undefined g.given t (unwrap_or o (framed_act g t
          (action_of (framed_context g t) (work_of t) (AtInstr (Instr.Call result must_tail ty (Callee.Named n)
          args))))))
          (ap (enter_given g t result (arg_values g.given.code t.top.values args)) (h n refl))
      given_none (Instr.Call result must_tail ty (Callee.Allocator a) args) h = refl
      given_none (Instr.Call result must_tail ty (Callee.Intrinsic j) args) h = refl
      given_none (Instr.Call result must_tail ty (Callee.Local v) args) h = refl
      given_none (Instr.Binary r op flags ty a b) h = refl
      given_none (Instr.Icmp r pred ty a b) h = refl
      given_none (Instr.Select r y a b) h = refl
      given_none (Instr.Cast r op nneg a to) h = refl
      given_none (Instr.Alloca r ty align) h = refl
      given_none (Instr.Load r ty p align) h = refl
      given_none (Instr.Store a p align) h = refl
      given_none (Instr.Gep r inbounds ty p indices) h = refl
