use Rattle.rule_laws.proofs.rules.front_rules.Whole.{rules_kept}
use Rattle.rule_laws.proofs.rules.front_rules.front_allocas_keep_function_rules.Goals as goal

pub returns : goal.returns
returns c = rules_kept
