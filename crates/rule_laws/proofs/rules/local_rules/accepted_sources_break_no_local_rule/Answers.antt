use Rattle.rule_laws.proofs.rules.local_rules.Accepted.{accepted_breaks_none}
use Rattle.rule_laws.proofs.rules.local_rules.accepted_sources_break_no_local_rule.Goals as goal

pub returns : goal.returns
returns c = accepted_breaks_none
