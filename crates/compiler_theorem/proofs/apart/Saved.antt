-- Behind a save the state stands beside the next one of the run before.
use Rattle.std.proofs.Common.{◌≡◌, ℕ, suc, Bool, true, false, List, Option, Some, None, Result, Ok, Err, sym, ap, ◌∙◌, subst}
use Rattle.std.specs.Prelude.{length, not}
use Rattle.compiler_theorem.proofs.known.Runs.{last_step}
use Rattle.compiler.specs.ir_base.declared.cause.Cause.{Cause}
use Rattle.compiler.specs.ir_base.declared.outcome.Outcome.{Outcome}
use Rattle.compiler.specs.ir_model.Names.{function_at}
use Rattle.compiler.specs.ir_model.Ty.{Ty}
use Rattle.compiler.specs.ir_model.declared.instr.Instr.{Instr}
use Rattle.compiler.specs.ir_model.declared.operand.Arg.{Arg}
use Rattle.compiler.specs.ir_model.declared.operand.Callee.{Callee}
use Rattle.compiler.specs.ir_model.declared.operand.Intrinsic.{Intrinsic}
use Rattle.compiler.specs.ir_paths.Windows.{suspend_of}
use Rattle.compiler.specs.ir_paths.declared.point.Point.{Point}
use Rattle.compiler.specs.pass_kept_proof.Kept.{continue_keeping}
use Rattle.pass_frames_meaning.proofs.pass_renewed_meaning.OneStep.{IsOneStep, IsStep, step_is}
use Rattle.pass_frames_meaning.proofs.pass_renewed_meaning.RunStates.{of_run}
use Rattle.pass_frames_meaning.proofs.pass_renewed_meaning.SaveCases.{save_case}
use Rattle.pass_frames_meaning.specs.pass_renewed_meaning.Followed.{AreInStep, Ended, Goes}
use Rattle.pass_frames_meaning.specs.pass_renewed_meaning.Offsets.{first_at}
use Rattle.pass_frames_meaning.specs.pass_renewed_meaning.Rules.{KeepsAll, Setting}
use Rattle.pass_frames_meaning.specs.pass_renewed_meaning.Runs.{first_given, first_step, second_given}
use Rattle.pass_frames_meaning.proofs.pass_renewed_meaning.Here.{Here}
use Rattle.pass_frames_meaning.specs.pass_renewed_proof.Beside.{IsBeside}
use Rattle.pass_frames_meaning.specs.pass_renewed_proof.Renewed.{renewed_advance, renewed_next, renewed_step}
use Rattle.compiler.specs.run_agreement.Machines.{IsFine, IsRunning}
use Rattle.compiler.specs.run_source.Source.{act, context_of, first_state, save_for}
use Rattle.compiler.specs.run_source.State.{next, or_undefined, own_instance, with_instance, with_left, work_of}
use Rattle.compiler.specs.run_source.declared.state.Instance.{Instance}
use Rattle.compiler.specs.run_source.declared.state.State.{State}
use Rattle.compiler.specs.run_source.declared.state.Status.{Status}
use Rattle.compiler.specs.run_step.Results.{and_then, found, ok_if}
use Rattle.compiler.specs.run_step.Step.{AtInstr, Fetched, action_of, fetch}

abbrev kept_by : State → Point → Point → ℕ → Instance → State
kept_by s p u i x = with_left (with_instance s i (record x {
  status = Status.Suspended u s.top.values;
  last_save = Some (record { depth = length s.below; save = p });
})) true

-- a save shows nothing and ends nothing
saved_runs : (s : State) (p : Point) (o : Option Point) (after : State)
    → and_then (found Cause.State o) (λ u. and_then (save_for s p u) (λ s. Ok (next s))) ≡ Ok after
    → after.outcome ≡ s.outcome
saved_runs s p None after e = let z : ◌≡◌ {A = Result State Cause} (Err Cause.State) (Ok after) = e in absurd (cc)
saved_runs s p (Some u) after e = on (own_instance s) e
  where
    by : (i : ℕ) (x : Instance) (b : Bool)
        → and_then (ok_if b Cause.State (kept_by s p u i x)) (λ s. Ok (next s)) ≡ Ok after → after.outcome ≡ s.outcome
    by i x false k = let z : ◌≡◌ {A = Result State Cause} (Err Cause.State) (Ok after) = k in absurd (cc)
    by i x true k =
        let z : ◌≡◌ {A = Result State Cause} (Ok (next (kept_by s p u i x))) (Ok after) = k in
        let same : next (kept_by s p u i x) ≡ after = cc in
        ap (λ (y : State). y.outcome) (sym same)

    on : (o : Option (ℕ × Instance)) → and_then (and_then (found Cause.State o) (λ (r : ℕ × Instance).
        ok_if (not r.1.freed) Cause.State (kept_by s p u r.0 r.1))) (λ s. Ok (next s)) ≡ Ok after → after.outcome ≡ s.outcome
    on None k = let z : ◌≡◌ {A = Result State Cause} (Err Cause.State) (Ok after) = k in absurd (cc)
    on (Some r) k = by r.0 r.1 (not r.1.freed) k

module _ (c : Setting) (all : KeepsAll c) (n : ℕ) (t : State)
    (beside : IsBeside c.code c.flags c.roots (first_at c n) t) (runs : (first_at c n).outcome ≡ Outcome.Running)
    (fine : IsFine (first_step c (first_at c n)).outcome) (result : Option ℕ) (must_tail : Bool) (ty : Option Ty)
    (args : List Arg)
    (save : fetch (function_at c.code (first_at c n).top.func) (first_at c n).top.block (first_at c n).top.at
    ≡ AtInstr (Instr.Call result must_tail ty (Callee.Intrinsic Intrinsic.CoroSave) args)) where
  abbrev s : State
  s = first_at c n

  abbrev other : State
  other = record t { top = record s.top { values = beside.top.values; slots = beside.top.slots } }

  abbrev instr : Fetched
  instr = AtInstr (Instr.Call result must_tail ty (Callee.Intrinsic Intrinsic.CoroSave) args)

  same : t ≡ other
  same = λ i. record t { top = beside.top.is i }

  abbrev x : Here c
  x = record {
    all = all;
    s = first_at c n;
    t = t;
    values = beside.top.values;
    slots = beside.top.slots;
    beside = subst (IsBeside c.code c.flags c.roots (first_at c n)) same beside;
    runs = runs;
    run = of_run c all n;
  }

  first : IsStep (first_given c) (continue_keeping (first_given c) c.keep) (first_at c n)
      (fetch (function_at c.code (first_at c n).top.func) (first_at c n).top.block (first_at c n).top.at)
  first = step_is (first_given c) (continue_keeping (first_given c) c.keep) (first_at c n) runs fine

  acts : act (first_given c) (continue_keeping (first_given c) c.keep) (first_at c n)
      (action_of (context_of (first_given c) (first_at c n)) (work_of (first_at c n)) instr) ≡ Ok first.after
  acts = ap (λ y. act (first_given c) (continue_keeping (first_given c) c.keep) s
      (action_of (context_of (first_given c) s) (work_of s) y)) (sym save) ∙ first.acts

  one : IsOneStep (second_given c) other instr (first_given c) first.after
  one = save_case c x result must_tail ty args save first.after acts

  running : first.after.outcome ≡ Outcome.Running
  running = saved_runs s (record { block = s.top.block; at = s.top.at })
      (suspend_of (function_at c.code s.top.func) (record { block = s.top.block; at = s.top.at })) first.after acts ∙ runs

  step : renewed_step (second_given c) other ≡ one.other
  step = ap (renewed_advance (second_given c) other) (beside.outcome ∙ runs)
      ∙ ap (or_undefined (second_given c).given other) (ap (renewed_next (second_given c) other) save ∙ one.goes)

  goes : AreInStep c.code c.flags c.roots first.after one.other → IsBeside c.code c.flags c.roots first.after one.other
  goes (Goes b) = b
  goes (Ended e) = absurd (e.over (subst IsRunning (sym running) tt))

  pub saves_beside : IsBeside c.code c.flags c.roots (first_at c (suc n)) (renewed_step (second_given c) t)
  saves_beside =
      subst (IsBeside c.code c.flags c.roots (first_at c (suc n)))
      (sym step ∙ ap (renewed_step (second_given c)) (sym same))
      (subst (λ (z : State). IsBeside c.code c.flags c.roots z one.other)
      (sym first.is ∙ sym (last_step (first_step c) n (first_state c.code c.entry c.args))) (goes one.related))
