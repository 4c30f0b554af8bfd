use Rattle.pass_renewed_proof.proofs.Start.{first_beside}
use Rattle.pass_renewed_proof.proofs.states_begin_beside.Goals as goal

pub returns : goal.returns
returns c = first_beside
