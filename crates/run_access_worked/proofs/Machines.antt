-- The machines execute straight lines.
use Rattle.std.proofs.Common.{◌≡◌, ℕ, ◌+◌, true, List, [], ◌∷◌, length, Option, Some, None, Result, refl, ap, ◌∙◌, arith}
use Rattle.std.specs.Prelude.{is_none, unwrap_or}
use Rattle.run_access_worked.specs.Machines.{ahead, gives_no_frame, plain_ahead}
use Rattle.run_laws_worked.specs.ir_base.declared.cause.Cause.{Cause}
use Rattle.run_laws_worked.specs.ir_base.declared.outcome.Outcome.{Outcome}
use Rattle.run_laws_worked.specs.run_source.Source.{Continues, act, advance_by, context_of, step_by}
use Rattle.run_laws_worked.specs.run_source.State.{function_of, or_undefined, work_of}
use Rattle.run_laws_worked.specs.run_source.declared.state.State.{State}
use Rattle.run_laws_worked.specs.run_framed.Framed.{FramedGiven, enter_given, framed_act, framed_advance, framed_context, framed_next, framed_step, given_call, given_ramp}
use Rattle.run_laws_worked.specs.ir_model.declared.instr.Instr.{Instr}
use Rattle.run_laws_worked.specs.ir_model.declared.operand.Callee.{Callee}
use Rattle.run_laws_worked.specs.run_step.Runs.{iterate}
use Rattle.run_laws_worked.specs.run_step.Step.{Action, AtInstr, Fetched, Work, action_of}
use Rattle.run_laws_worked.specs.run_step.Values.{arg_values}
use Rattle.run_plain.specs.Plain.{PlainGiven, plain_act, plain_advance, plain_context, plain_function, plain_or_undefined, plain_step, plain_work}
use Rattle.run_plain.specs.declared.state.PlainState.{PlainState}
use Rattle.run_laws_worked.specs.run_source_tables.Given.{Given}
use Rattle.run_laws_worked.proofs.run_laws.access.Lines.{runs_line}
use Rattle.run_laws_worked.specs.run_laws.access.Lines.{GoesOn, Runs, StandAt}
use Rattle.run_laws_worked.specs.run_laws.changed.Changed.{Each}

any_passes : (is : List Instr) → Each (λ (i : Instr). true ≡ true) is
any_passes [] = tt
any_passes (i ∷ is) = (refl, any_passes is)

-- ---- plain modules

module _ (g : PlainGiven) (s : PlainState) (running : s.outcome ≡ Outcome.Running) where
  plain_goes : GoesOn (plain_step g) (plain_ahead s) (plain_context g s) s.top.block s.top.at (λ (i : Instr). true)
  plain_goes = record {
    next = λ k w x i here passes done.
        let e : s.top.at + k + 1 ≡ s.top.at + (k + 1) = omega arith in
        ap (plain_advance g (plain_ahead s k w)) running
        ∙ ap (λ (h : Fetched). plain_or_undefined g (plain_ahead s k w) (plain_act g (plain_ahead s k w) (action_of (plain_context g s) w h))) here
        ∙ ap (λ (a : Action). plain_or_undefined g (plain_ahead s k w) (plain_act g (plain_ahead s k w) a)) done
        ∙ ap (λ (p : ℕ). record s { world = x.world; top = record s.top { at = p; values = x.values } }) e;
  }

  pub plain_line : (is : List Instr) (x : Work) → StandAt (plain_function g s) s.top.block s.top.at is → Runs (plain_context g s) is (plain_work s) x → iterate (plain_step g) (length is) s ≡ plain_ahead s (length is) x
  plain_line is x stand runs =
      let e : s.top.at ≡ s.top.at + 0 = omega arith in
      ap (λ (p : ℕ). iterate (plain_step g) (length is) (record s { top = record s.top { at = p } })) e
      ∙ runs_line (plain_step g) (plain_ahead s) (plain_context g s) s.top.block s.top.at (λ (i : Instr). true) is (plain_work s) x plain_goes stand (any_passes is) runs

-- ---- sources, by any way to go on behind a suspend

module _ (g : Given) (go : Continues) (s : State) (running : s.outcome ≡ Outcome.Running) where
  source_goes : GoesOn (step_by g go) (ahead s) (context_of g s) s.top.block s.top.at (λ (i : Instr). true)
  source_goes = record {
    next = λ k w x i here passes done.
        let e : s.top.at + k + 1 ≡ s.top.at + (k + 1) = omega arith in
        ap (advance_by g go (ahead s k w)) running
        ∙ ap (λ (h : Fetched). or_undefined g (ahead s k w) (act g go (ahead s k w) (action_of (context_of g s) w h))) here
        ∙ ap (λ (a : Action). or_undefined g (ahead s k w) (act g go (ahead s k w) a)) done
        ∙ ap (λ (p : ℕ). record s { world = x.world; top = record s.top { at = p; values = x.values } }) e;
  }

  pub source_line : (is : List Instr) (x : Work) → StandAt (function_of g s) s.top.block s.top.at is → Runs (context_of g s) is (work_of s) x → iterate (step_by g go) (length is) s ≡ ahead s (length is) x
  source_line is x stand runs =
      let e : s.top.at ≡ s.top.at + 0 = omega arith in
      ap (λ (p : ℕ). iterate (step_by g go) (length is) (record s { top = record s.top { at = p } })) e
      ∙ runs_line (step_by g go) (ahead s) (context_of g s) s.top.block s.top.at (λ (i : Instr). true) is (work_of s) x source_goes stand (any_passes is) runs

-- ---- framed modules

not_given : (g : FramedGiven) (s : State) (i : Instr) → gives_no_frame g.given.code i ≡ true → given_call g s (AtInstr i) ≡ None
not_given g s (Instr.Call result must_tail ty (Callee.Named n) args) e = on (given_ramp g.given.code n) e
  where
    on : (o : Option ℕ) → is_none o ≡ true → enter_given g s result (arg_values g.given.code s.top.values args) o ≡ None
    on None e = refl
    on (Some f) e = absurd (cc)
not_given g s (Instr.Call result must_tail ty (Callee.Allocator a) args) e = refl
not_given g s (Instr.Call result must_tail ty (Callee.Intrinsic a) args) e = refl
not_given g s (Instr.Call result must_tail ty (Callee.Local a) args) e = refl
not_given g s _ e = refl

module _ (g : FramedGiven) (s : State) (running : s.outcome ≡ Outcome.Running) where
  framed_goes : GoesOn (framed_step g) (ahead s) (framed_context g s) s.top.block s.top.at (gives_no_frame g.given.code)
  framed_goes = record {
    next = λ k w x i here passes done.
        let e : s.top.at + k + 1 ≡ s.top.at + (k + 1) = omega arith in
        ap (framed_advance g (ahead s k w)) running
        ∙ ap (λ (h : Fetched). or_undefined g.given (ahead s k w) (framed_next g (ahead s k w) h)) here
        ∙ ap (λ (o : Option (Result State Cause)). or_undefined g.given (ahead s k w) (unwrap_or o (framed_act g (ahead s k w) (action_of (framed_context g s) w (AtInstr i))))) (not_given g (ahead s k w) i passes)
        ∙ ap (λ (a : Action). or_undefined g.given (ahead s k w) (framed_act g (ahead s k w) a)) done
        ∙ ap (λ (p : ℕ). record s { world = x.world; top = record s.top { at = p; values = x.values } }) e;
  }

  pub framed_line : (is : List Instr) (x : Work) → Each (λ (i : Instr). gives_no_frame g.given.code i ≡ true) is → StandAt (function_of g.given s) s.top.block s.top.at is → Runs (framed_context g s) is (work_of s) x → iterate (framed_step g) (length is) s ≡ ahead s (length is) x
  framed_line is x passes stand runs =
      let e : s.top.at ≡ s.top.at + 0 = omega arith in
      ap (λ (p : ℕ). iterate (framed_step g) (length is) (record s { top = record s.top { at = p } })) e
      ∙ runs_line (framed_step g) (ahead s) (framed_context g s) s.top.block s.top.at (gives_no_frame g.given.code) is (work_of s) x framed_goes stand passes runs
