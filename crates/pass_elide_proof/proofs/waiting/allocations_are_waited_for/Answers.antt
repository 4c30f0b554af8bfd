use Rattle.pass_elide_proof.proofs.Allocated.{waits}
use Rattle.pass_elide_proof.proofs.waiting.allocations_are_waited_for.Goals as goal

pub returns : goal.returns
returns c = waits
