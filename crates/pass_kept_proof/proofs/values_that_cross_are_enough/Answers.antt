use Rattle.pass_kept_proof.proofs.Handed.{handed_agrees}
use Rattle.pass_kept_proof.proofs.values_that_cross_are_enough.Goals as goal

pub returns : goal.returns
returns c = handed_agrees
