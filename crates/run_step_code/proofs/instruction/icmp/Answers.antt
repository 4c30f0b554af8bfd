use Rattle.std.proofs.Common.{◌∙◌, ap, refl, subst}
use Rattle.run_memory.specs.declared.pointer.Value.{Value}
use Rattle.run_step.specs.Effects.{IsEffect, context, work}
use Rattle.run_step.specs.Step.{Action, compared}
use Rattle.run_step.specs.Values.{operand_value}
use Rattle.run_step_code.proofs.instruction.icmp.Goals as goal

pub returns-clause-done : goal.returns-clause-done
returns-clause-done g c = λ f.
    let m = c.args.program.now.module in
    let env = c.args.values.now in
    let ty = c.args.ty.now in
    let x = context m c.args.program.now.answers (g.R.AccessRights.rights c.args.rights.now) f in
    let w = work c.args.world.now env in
    let a = operand_value m env ty c.args.left.now in
    let e =
    c.compared-outcome.ensures x w c.args.name refl refl
    ∙ ap (λ (v : Value). compared x w c.args.name c.args.pred ty v c.value_of-right.result) c.value_of-left.ensures
    ∙ ap (λ (v : Value). compared x w c.args.name c.args.pred ty a v) c.value_of-right.ensures in
    let P : Action → Type 0 = λ r. IsEffect c.settle.result w (work c.args.world.now c.settle.new.values) r in
    subst P e (c.settle.ensures.done c.args.world.now)
