use Rattle.pass_split_proof.proofs.transfers.Passing.{passing_followed}
use Rattle.pass_split_proof.proofs.transfers.passing_activations_are_followed.Goals as goal

pub returns : goal.returns
returns c = passing_followed
