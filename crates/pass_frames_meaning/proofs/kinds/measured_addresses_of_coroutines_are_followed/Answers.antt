use Rattle.pass_frames_meaning.proofs.kinds.Distanced.{measured_followed}
use Rattle.pass_frames_meaning.proofs.kinds.measured_addresses_of_coroutines_are_followed.Goals as goal

pub returns : goal.returns
returns c = measured_followed
