use Rattle.rule_laws.proofs.rules.woven_rules.Fronts.{front_keeps}
use Rattle.rule_laws.proofs.rules.woven_rules.front_allocas_keep_rules.Goals as goal

pub returns : goal.returns
returns c = front_keeps
