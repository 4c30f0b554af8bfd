use Rattle.pass_split_proof.proofs.asking.Promised.{promise_followed}
use Rattle.pass_split_proof.proofs.asking.promises_are_followed.Goals as goal

pub returns : goal.returns
returns c = promise_followed
