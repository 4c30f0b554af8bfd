use Rattle.compiler.proofs.whole.elided_forms.Ready.{elided_ready}
use Rattle.compiler.proofs.whole.elided_forms.elided_modules_are_ready.Goals as goal

pub returns : goal.returns
returns c = elided_ready
