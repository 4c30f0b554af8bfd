use Rattle.pass_renewed_proof.proofs.Settled.{settled_beside}
use Rattle.pass_renewed_proof.proofs.ordinary_steps_stay_beside.Goals as goal

pub returns : goal.returns
returns c = settled_beside
