use Rattle.rule_laws.proofs.rules.function_rules.Signatures.{go_by_signatures}
use Rattle.rule_laws.proofs.rules.function_rules.rules_go_by_signatures.Goals as goal

pub returns : goal.returns
returns c = go_by_signatures
