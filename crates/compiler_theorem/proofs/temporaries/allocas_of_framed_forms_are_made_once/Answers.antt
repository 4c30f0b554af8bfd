use Rattle.compiler_theorem.proofs.temporaries.Rules.{framed_own}
use Rattle.compiler_theorem.proofs.temporaries.allocas_of_framed_forms_are_made_once.Goals as goal

pub returns : goal.returns
returns c = framed_own
