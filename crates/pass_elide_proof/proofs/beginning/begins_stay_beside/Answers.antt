use Rattle.pass_elide_proof.proofs.Begins.{begin_beside}
use Rattle.pass_elide_proof.proofs.beginning.begins_stay_beside.Goals as goal

pub returns : goal.returns
returns c = begin_beside
