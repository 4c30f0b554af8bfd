use Rattle.pass_frames_code.proofs.framings.Built.{framing_there}
use Rattle.pass_frames_code.proofs.framings.coroutines_have_framings.Goals as goal

pub returns : goal.returns
returns c = framing_there
