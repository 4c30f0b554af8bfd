use Rattle.pass_split_proof.proofs.states.Closed.{frames_stay}
use Rattle.pass_split_proof.proofs.states.frames_stay.Goals as goal

pub returns : goal.returns
returns c = frames_stay
