use Rattle.pass_renewed_proof.proofs.Releasing.{freed_beside}
use Rattle.pass_renewed_proof.proofs.frees_stay_beside.Goals as goal

pub returns : goal.returns
returns c = freed_beside
