use Rattle.pass_elide_proof.proofs.Woken.{waking_beside}
use Rattle.pass_elide_proof.proofs.waking.resumes_stay_beside.Goals as goal

pub returns : goal.returns
returns c = waking_beside
