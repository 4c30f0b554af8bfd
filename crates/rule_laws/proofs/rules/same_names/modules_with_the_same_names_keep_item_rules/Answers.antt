use Rattle.rule_laws.proofs.rules.same_names.Items.{same_names_keep_items}
use Rattle.rule_laws.proofs.rules.same_names.modules_with_the_same_names_keep_item_rules.Goals as goal

pub returns : goal.returns
returns c = same_names_keep_items
