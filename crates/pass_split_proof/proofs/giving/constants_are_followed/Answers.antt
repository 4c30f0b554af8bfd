use Rattle.pass_split_proof.proofs.giving.Constants.{constant_followed}
use Rattle.pass_split_proof.proofs.giving.constants_are_followed.Goals as goal

pub returns : goal.returns
returns c = constant_followed
