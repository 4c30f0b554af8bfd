use Rattle.rule_laws.proofs.frames.replaced.Extended.{go_by_functions}
use Rattle.rule_laws.proofs.rules.function_rules.rules_hold_with_further_functions.Goals as goal

pub returns : goal.returns
returns c = go_by_functions
