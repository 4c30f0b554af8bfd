use Rattle.pass_kept_proof.proofs.Crossing.{crossing_agrees}
use Rattle.pass_kept_proof.proofs.crossing_values_are_enough.Goals as goal

pub returns : goal.returns
returns c = crossing_agrees
