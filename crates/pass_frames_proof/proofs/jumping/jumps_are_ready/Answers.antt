use Rattle.pass_frames_proof.proofs.jumping.Ready.{may_jump}
use Rattle.pass_frames_proof.proofs.jumping.jumps_are_ready.Goals as goal

pub returns : goal.returns
returns c = may_jump
