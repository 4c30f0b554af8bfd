use Rattle.std.proofs.Common.{◌∙◌, ap, map}
use Rattle.run_memory.specs.declared.pointer.Value.{Value}
use Rattle.ir_model.specs.declared.instr.Phi.{Phi}
use Rattle.run_step.specs.Effects.{with_taken}
use Rattle.run_step.specs.Step.{incoming_from, with_all}
use Rattle.run_step.specs.Values.{operand_value}
use Rattle.run_step_code.proofs.Slots.{taken-is}
use Rattle.run_step_code.proofs.enter.take_phis.Goals as goal

pub returns-clause-done : goal.returns-clause-done
returns-clause-done c =
    let env = c.args.values.now in
    let phis = c.as_slice-phis.result.now in
    let f : Phi → Value = λ p. operand_value c.args.program.now.module env p.ty (incoming_from p.incoming c.args.label) in
    c.set_taken.ensures
    ∙ ap (λ l. with_taken env phis l) (c.as_slice.ensures ∙ c.in_ok-all.ensures)
    ∙ taken-is env f phis
    ∙ ap (λ l. with_all env (map (λ p. (p.result, f p)) l)) c.as_slice-phis.ensures
