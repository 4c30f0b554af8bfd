use Rattle.pass_frames_code.proofs.ordinary.Quiet.{quiet_made}
use Rattle.pass_frames_code.proofs.ordinary.quiet_steps_are_made.Goals as goal

pub returns : goal.returns
returns c = quiet_made
