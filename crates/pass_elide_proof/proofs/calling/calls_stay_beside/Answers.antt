use Rattle.pass_elide_proof.proofs.Calls.{calls_beside}
use Rattle.pass_elide_proof.proofs.calling.calls_stay_beside.Goals as goal

pub returns : goal.returns
returns c = calls_beside
