use Rattle.pass_split_proof.proofs.calling.Returned.{return_followed}
use Rattle.pass_split_proof.proofs.calling.returns_are_followed.Goals as goal

pub returns : goal.returns
returns c g h s t r = return_followed g h s t r
