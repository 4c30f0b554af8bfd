use Rattle.pass_elide_proof.proofs.LastAgain.{last_goes}
use Rattle.pass_elide_proof.proofs.ordinary.last_allocas_stay_beside.Goals as goal

pub returns : goal.returns
returns c = λ e s t name ty align from label r front at. last_goes e s t name ty align from label r front at
