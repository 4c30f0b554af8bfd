use Rattle.pass_split_proof.proofs.branching.Stopped.{stop_followed}
use Rattle.pass_split_proof.proofs.branching.switches_are_followed.Goals as goal

pub returns : goal.returns
returns c = stop_followed
