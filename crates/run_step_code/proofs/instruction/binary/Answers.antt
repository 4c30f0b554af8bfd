use Rattle.std.proofs.Common.{◌∙◌, ap, subst}
use Rattle.run_memory.specs.declared.pointer.Value.{Value}
use Rattle.ir_base.specs.declared.cause.Cause.{Cause}
use Rattle.run_ints.specs.Numbers.{binary}
use Rattle.run_ints.specs.declared.num.Num.{Num}
use Rattle.std.specs.Prelude.{Result}
use Rattle.run_step.specs.Effects.{IsEffect, work}
use Rattle.run_step.specs.Step.{done, set_value}
use Rattle.run_step.specs.Values.{number_at, operand_value, value_of}
use Rattle.run_step_code.proofs.instruction.binary.Goals as goal

pub returns-clause-done : goal.returns-clause-done
returns-clause-done c = λ rights f world.
    let m = c.args.program.now.module in
    let env = c.args.values.now in
    let ty = c.args.ty.now in
    let left = c.value_of-left.result in
    let right = c.value_of-right.result in
    let a = operand_value m env ty c.args.left.now in
    let e =
    c.compute-outcome.ensures
    ∙ ap (λ (v : Value). binary c.args.op c.args.flags (number_at ty v) (number_at ty right)) c.value_of-left.ensures
    ∙ ap (λ (v : Value). binary c.args.op c.args.flags (number_at ty a) (number_at ty v)) c.value_of-right.ensures in
    let P : Result Num Cause → Type 0 = λ r. IsEffect c.settle_number.result (work world env) (work world c.settle_number.new.values) (done (λ n. set_value (work world env) c.args.name (value_of n)) r) in
    subst P e (c.settle_number.ensures.done world)
