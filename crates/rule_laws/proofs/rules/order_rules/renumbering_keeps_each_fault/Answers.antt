use Rattle.rule_laws.proofs.rules.order_rules.Whole.{all_same}
use Rattle.rule_laws.proofs.rules.order_rules.renumbering_keeps_each_fault.Goals as goal

pub returns : goal.returns
returns c = all_same
