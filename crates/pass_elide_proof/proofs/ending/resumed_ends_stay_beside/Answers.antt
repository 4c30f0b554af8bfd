use Rattle.pass_elide_proof.proofs.EndsResumed.{resumed_ends}
use Rattle.pass_elide_proof.proofs.ending.resumed_ends_stay_beside.Goals as goal

pub returns : goal.returns
returns c = resumed_ends
