use Rattle.pass_split_proof.proofs.asking.Done.{done_followed}
use Rattle.pass_split_proof.proofs.asking.done_is_followed.Goals as goal

pub returns : goal.returns
returns c = done_followed
