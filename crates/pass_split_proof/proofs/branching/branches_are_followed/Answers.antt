use Rattle.pass_split_proof.proofs.branching.Terminators.{term_followed}
use Rattle.pass_split_proof.proofs.branching.branches_are_followed.Goals as goal

pub returns : goal.returns
returns c g h s t r = term_followed g h s t r
