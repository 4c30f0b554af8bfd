use Rattle.pass_elide_proof.proofs.OrdinarySteps.{stay}
use Rattle.pass_elide_proof.proofs.ordinary.ordinary_steps_stay_beside.Goals as goal

pub returns : goal.returns
returns c = stay
