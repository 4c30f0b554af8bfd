use Rattle.pass_elide_proof.proofs.FreesWaited.{goes_beside}
use Rattle.pass_elide_proof.proofs.ending.frees_of_null_stay_beside.Goals as goal

pub returns : goal.returns
returns c = goes_beside
