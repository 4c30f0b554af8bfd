use Rattle.std.proofs.Common.{◌∙◌, ap}
use Rattle.ir_calls.proofs.Operands.{operand_at_is, value_or_none}
use Rattle.ir_calls.proofs.calls.operand_of.Goals as goal

pub returns-in-None : goal.returns-in-None
returns-in-None c = operand_at_is c.args.args.now c.args.at ∙ ap value_or_none c.in-None.ensures

pub returns-in-Some : goal.returns-in-Some
returns-in-Some c = operand_at_is c.args.args.now c.args.at ∙ ap value_or_none c.in-Some.ensures
