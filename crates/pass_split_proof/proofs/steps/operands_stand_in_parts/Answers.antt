use Rattle.pass_split_proof.proofs.steps.Operands.{operand_stands, phis_stand}
use Rattle.pass_split_proof.proofs.steps.operands_stand_in_parts.Goals as goal

pub returns-clause-operands : goal.returns-clause-operands
returns-clause-operands c = operand_stands

pub returns-clause-phis : goal.returns-clause-phis
returns-clause-phis c = phis_stand
