use Rattle.pass_exits_proof.proofs.split.names.Items.{split_keeps_items}
use Rattle.pass_exits_proof.proofs.split.names.split_modules_keep_item_rules.Goals as goal

pub returns : goal.returns
returns c = split_keeps_items
