use Rattle.pass_elide_proof.proofs.Frees.{free_beside}
use Rattle.pass_elide_proof.proofs.intrinsics.frees_are_asked.Goals as goal

pub returns : goal.returns
returns c = free_beside
