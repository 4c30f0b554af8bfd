use Rattle.pass_frames_code.proofs.phis.Stored.{phis_stored}
use Rattle.pass_frames_code.proofs.phis.phis_are_stored.Goals as goal

pub returns : goal.returns
returns c = phis_stored
