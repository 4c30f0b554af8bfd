use Rattle.pass_elide_proof.proofs.DestroyingWays.{destroys_on_way}
use Rattle.pass_elide_proof.proofs.destroying.destroys_enter_at_destroy_edges.Goals as goal

pub returns : goal.returns
returns c = destroys_on_way
