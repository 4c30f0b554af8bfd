use Rattle.pass_elide_proof.proofs.Sized.{waits}
use Rattle.pass_elide_proof.proofs.waiting.sizes_are_waited_for.Goals as goal

pub returns : goal.returns
returns c = waits
