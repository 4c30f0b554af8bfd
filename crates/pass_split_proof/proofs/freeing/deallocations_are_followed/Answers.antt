use Rattle.pass_split_proof.proofs.freeing.Freed.{deallocation_followed}
use Rattle.pass_split_proof.proofs.freeing.deallocations_are_followed.Goals as goal

pub returns : goal.returns
returns c = deallocation_followed
