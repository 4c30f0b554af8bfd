use Rattle.pass_elide_proof.proofs.DestroyingEnds.{ended_freed}
use Rattle.pass_elide_proof.proofs.destroying.destroyed_instances_are_freed_at_the_end.Goals as goal

pub returns : goal.returns
returns c = ended_freed
