use Rattle.pass_split_proof.proofs.silent.Suspended.{suspend_followed}
use Rattle.pass_split_proof.proofs.silent.suspends_are_followed.Goals as goal

pub returns : goal.returns
returns c = suspend_followed
