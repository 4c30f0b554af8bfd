use Rattle.rule_laws.proofs.rules.plain_rules.Accepted.{accepted}
use Rattle.rule_laws.proofs.rules.plain_rules.plain_modules_are_accepted.Goals as goal

pub returns : goal.returns
returns c = accepted
