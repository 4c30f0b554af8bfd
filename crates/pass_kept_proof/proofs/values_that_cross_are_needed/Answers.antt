use Rattle.pass_kept_proof.proofs.Handed.{keeps}
use Rattle.pass_kept_proof.proofs.values_that_cross_are_needed.Goals as goal

pub returns : goal.returns
returns c = keeps
