use Rattle.compiler.proofs.cleanup.rules.All.{all_clean}
use Rattle.compiler.proofs.cleanup.rules.cleaned_modules_keep_plain_rules.Goals as goal

pub returns : goal.returns
returns c = all_clean
