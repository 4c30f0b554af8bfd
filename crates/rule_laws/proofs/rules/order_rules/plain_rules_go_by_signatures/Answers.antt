use Rattle.rule_laws.proofs.rules.function_rules.Signatures.{plain_rules_by_signatures}
use Rattle.rule_laws.proofs.rules.order_rules.plain_rules_go_by_signatures.Goals as goal

pub returns : goal.returns
returns c = plain_rules_by_signatures
