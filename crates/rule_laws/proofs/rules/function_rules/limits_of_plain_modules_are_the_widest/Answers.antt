use Rattle.rule_laws.proofs.rules.function_rules.Stages.{rules_larger}
use Rattle.rule_laws.proofs.rules.function_rules.limits_of_plain_modules_are_the_widest.Goals as goal

pub returns : goal.returns
returns c = rules_larger
