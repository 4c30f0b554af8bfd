use Rattle.pass_elide_proof.proofs.AgainSteps.{allocas_again_stay_beside}
use Rattle.pass_elide_proof.proofs.ordinary.allocas_again_stay_beside.Goals as goal

pub returns : goal.returns
returns c = allocas_again_stay_beside
