use Rattle.pass_elide_proof.proofs.Constants.{asked_beside, constant_beside}
use Rattle.pass_elide_proof.proofs.intrinsics.constants_stay_beside.Goals as goal

pub returns-clause-constants : goal.returns-clause-constants
returns-clause-constants c = constant_beside

pub returns-clause-asked : goal.returns-clause-asked
returns-clause-asked c = asked_beside
