use Rattle.rule_laws.proofs.rules.plain_rules.Told.{items_of_accepted}
use Rattle.rule_laws.proofs.rules.plain_rules.accepted_modules_keep_item_rules.Goals as goal

pub returns : goal.returns
returns c = items_of_accepted
