use Rattle.pass_split_proof.proofs.giving.Freed.{free_followed}
use Rattle.pass_split_proof.proofs.giving.frees_are_followed.Goals as goal

pub returns : goal.returns
returns c = free_followed
