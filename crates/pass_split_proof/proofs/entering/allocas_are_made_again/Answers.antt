use Rattle.pass_split_proof.proofs.entering.Again.{again_followed}
use Rattle.pass_split_proof.proofs.entering.allocas_are_made_again.Goals as goal

pub returns : goal.returns
returns c = again_followed
