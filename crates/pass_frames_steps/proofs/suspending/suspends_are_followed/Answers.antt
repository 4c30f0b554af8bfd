use Rattle.pass_frames_steps.proofs.suspending.Suspended.{suspend_followed}
use Rattle.pass_frames_steps.proofs.suspending.suspends_are_followed.Goals as goal

pub returns : goal.returns
returns c = suspend_followed
