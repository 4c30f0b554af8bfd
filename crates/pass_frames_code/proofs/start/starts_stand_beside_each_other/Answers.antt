use Rattle.pass_frames_code.proofs.start.States.{starts_built}
use Rattle.pass_frames_code.proofs.start.starts_stand_beside_each_other.Goals as goal

pub returns : goal.returns
returns c = starts_built
