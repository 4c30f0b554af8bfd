use Rattle.pass_frames_code.proofs.led.Far.{far_there}
use Rattle.pass_frames_code.proofs.stepping.addresses_go_as_far.Goals as goal

pub returns : goal.returns
returns c = far_there
