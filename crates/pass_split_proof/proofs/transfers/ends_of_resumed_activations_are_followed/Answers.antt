use Rattle.pass_split_proof.proofs.transfers.Ends.{ends_followed}
use Rattle.pass_split_proof.proofs.transfers.Returning.{inside_followed}
use Rattle.pass_split_proof.proofs.transfers.ends_of_resumed_activations_are_followed.Goals as goal

pub returns-clause-returns : goal.returns-clause-returns
returns-clause-returns c = ends_followed

pub returns-clause-inside : goal.returns-clause-inside
returns-clause-inside c = inside_followed
