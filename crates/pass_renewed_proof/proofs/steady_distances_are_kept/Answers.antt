use Rattle.pass_renewed_proof.proofs.Steady.{distance_same}
use Rattle.pass_renewed_proof.proofs.steady_distances_are_kept.Goals as goal

pub returns : goal.returns
returns c = distance_same
