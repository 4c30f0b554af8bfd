use Rattle.compiler.proofs.cleanup.rules.Items.{items_clean}
use Rattle.compiler.proofs.cleanup.rules.cleaned_modules_keep_item_rules.Goals as goal

pub returns : goal.returns
returns c = items_clean
