use Rattle.rule_laws.proofs.rules.order_rules.Accepted.{no_coroutine_of_accepted, rules_of_accepted}
use Rattle.rule_laws.proofs.rules.order_rules.accepted_modules_keep_plain_rules.Goals as goal

pub returns : goal.returns
returns c = λ m h. (rules_of_accepted m h, no_coroutine_of_accepted m h)
