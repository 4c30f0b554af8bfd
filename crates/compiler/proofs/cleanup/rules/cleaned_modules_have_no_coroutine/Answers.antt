use Rattle.compiler.proofs.cleanup.rules.NoCoroutine.{none_left}
use Rattle.compiler.proofs.cleanup.rules.cleaned_modules_have_no_coroutine.Goals as goal

pub returns : goal.returns
returns c = none_left
