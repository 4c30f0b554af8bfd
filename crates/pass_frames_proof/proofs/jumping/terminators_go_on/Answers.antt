use Rattle.pass_frames_proof.proofs.jumping.Goes.{goes_there}
use Rattle.pass_frames_proof.proofs.jumping.terminators_go_on.Goals as goal

pub returns : goal.returns
returns c = goes_there
