use Rattle.pass_frames_proof.proofs.jumping.Ends.{ends_led}
use Rattle.pass_frames_proof.proofs.jumping.block_ends_are_executed.Goals as goal

pub returns : goal.returns
returns c = ends_led
