use Rattle.pass_elide_proof.proofs.FreesWaited.{waits}
use Rattle.pass_elide_proof.proofs.ending.frees_are_waited_for.Goals as goal

pub returns : goal.returns
returns c = waits
