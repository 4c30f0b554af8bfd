use Rattle.rule_laws.proofs.rules.woven_rules.Edges.{incoming_woven}
use Rattle.rule_laws.proofs.rules.woven_rules.woven_phis_have_each_label_once.Goals as goal

pub returns : goal.returns
returns c = incoming_woven
