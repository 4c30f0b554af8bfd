use Rattle.pass_frames_proof.proofs.jumping.Fronts.{front_led}
use Rattle.pass_frames_proof.proofs.jumping.fronts_are_executed.Goals as goal

pub returns : goal.returns
returns c = front_led
