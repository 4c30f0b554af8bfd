use Rattle.pass_split_proof.proofs.calling.Called.{call_to_followed}
use Rattle.pass_split_proof.proofs.calling.calls_are_followed.Goals as goal

pub returns : goal.returns
returns c = call_to_followed
