use Rattle.pass_split_proof.proofs.waking.Destroying.{destroys_followed}
use Rattle.pass_split_proof.proofs.waking.destroys_are_followed.Goals as goal

pub returns : goal.returns
returns c = destroys_followed
