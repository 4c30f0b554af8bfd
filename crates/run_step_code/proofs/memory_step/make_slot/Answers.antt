use Rattle.std.proofs.Common.{◌∙◌, sym}
use Rattle.ir_base.specs.declared.cause.Cause.{Cause}
use Rattle.run_step.specs.Step.{Stuck, is_alignment}
use Rattle.run_step.proofs.Lists.{if-false}
use Rattle.run_step_code.proofs.memory_step.make_slot.Goals as goal

pub returns-else-is_alignment-clause-done : goal.returns-else-is_alignment-clause-done
returns-else-is_alignment-clause-done c = λ rights. if-false (is_alignment c.args.align) _ (Stuck Cause.Align) (sym c.is_alignment.ensures ∙ c.if-is_alignment.false)
