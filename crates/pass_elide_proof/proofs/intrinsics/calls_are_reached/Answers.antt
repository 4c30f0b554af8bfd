use Rattle.pass_elide_proof.proofs.Fronts.{at_own}
use Rattle.pass_elide_proof.proofs.intrinsics.calls_are_reached.Goals as goal

pub returns : goal.returns
returns c = at_own
