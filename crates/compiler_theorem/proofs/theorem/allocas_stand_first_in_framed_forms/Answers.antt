use Rattle.compiler_theorem.proofs.theorem.Fronts.{allocas_stand_first}
use Rattle.compiler_theorem.proofs.theorem.allocas_stand_first_in_framed_forms.Goals as goal

pub returns : goal.returns
returns c = allocas_stand_first
