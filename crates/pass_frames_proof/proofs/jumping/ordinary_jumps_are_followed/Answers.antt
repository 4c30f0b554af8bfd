use Rattle.pass_frames_proof.proofs.jumping.Whole.{whole_jump_followed}
use Rattle.pass_frames_proof.proofs.jumping.ordinary_jumps_are_followed.Goals as goal

pub returns : goal.returns
returns c = whole_jump_followed
