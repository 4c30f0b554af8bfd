use Rattle.rule_laws.proofs.rules.woven_rules.All.{rules_woven}
use Rattle.rule_laws.proofs.rules.woven_rules.woven_functions_keep_rules.Goals as goal

pub returns : goal.returns
returns c = rules_woven
