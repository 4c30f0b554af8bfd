use Rattle.pass_renewed_proof.proofs.Giving.{gives_beside}
use Rattle.pass_renewed_proof.proofs.given_values_stay_beside.Goals as goal

pub returns : goal.returns
returns c = gives_beside
