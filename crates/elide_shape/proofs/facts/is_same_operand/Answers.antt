use Rattle.rule_phis.proofs.SameOperands.{decided}
use Rattle.elide_shape.proofs.facts.is_same_operand.Goals as goal

pub returns : goal.returns
returns c = decided c.is_same.result c.args.a.now c.args.b.now c.is_same.ensures
