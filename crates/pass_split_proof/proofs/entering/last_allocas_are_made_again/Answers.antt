use Rattle.pass_split_proof.proofs.entering.Last.{last_followed}
use Rattle.pass_split_proof.proofs.entering.last_allocas_are_made_again.Goals as goal

pub returns : goal.returns
returns c = last_followed
