use Rattle.rule_phis.proofs.SameOperands.{decided}
use Rattle.rule_phis.proofs.edges.is_same_operand.Goals as goal

pub returns : goal.returns
returns c = decided c.is_same.result c.args.a.now c.args.b.now c.is_same.ensures
