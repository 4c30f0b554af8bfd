use Rattle.pass_frames_proof.proofs.jumping.Placed.{phis_placed}
use Rattle.pass_frames_proof.proofs.jumping.phis_stand_in_place.Goals as goal

pub returns : goal.returns
returns c = phis_placed
