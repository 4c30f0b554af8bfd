use Rattle.std.proofs.Common.{◌∙◌, ap, subst}
use Rattle.run_memory.specs.declared.pointer.Value.{Value}
use Rattle.run_step.specs.Effects.{IsEffect, work}
use Rattle.run_step.specs.Step.{Action, branch, switch}
use Rattle.run_step.specs.Values.{arg_value}
use Rattle.run_step_code.proofs.terminator.terminate.Goals as goal

pub returns-in-Branch-clause-done : goal.returns-in-Branch-clause-done
returns-in-Branch-clause-done c = λ rights f world.
    let w = work world c.args.values.now in
    let P : Action → Type 0 = λ a. IsEffect c.branch-condition_in.result w w a in
    let e = ap (λ (v : Value). branch v c.in-Branch.yes c.in-Branch.no) c.condition_in.ensures in
    rw c.in-Branch.is (subst P e (c.branch-condition_in.ensures.done w))

pub returns-in-Switch-clause-done : goal.returns-in-Switch-clause-done
returns-in-Switch-clause-done c = λ rights f world.
    let w = work world c.args.values.now in
    let m = c.args.program.now.module in
    let P : Action → Type 0 = λ a. IsEffect c.switch.result w w a in
    let e =
    ap (λ (v : Value). switch m v c.in-Switch.default c.as_slice.result.now) c.value_of_arg.ensures
    ∙ ap (λ l. switch m (arg_value m c.args.values.now c.in-Switch.arg) c.in-Switch.default l) c.as_slice.ensures in
    rw c.in-Switch.is (subst P e (c.switch.ensures.done w))
