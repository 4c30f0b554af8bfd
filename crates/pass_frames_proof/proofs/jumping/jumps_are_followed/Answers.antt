use Rattle.pass_frames_proof.proofs.jumping.Jumps.{jump_followed}
use Rattle.pass_frames_proof.proofs.jumping.jumps_are_followed.Goals as goal

pub returns : goal.returns
returns c = jump_followed
