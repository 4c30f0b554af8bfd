use Rattle.pass_frames_code.proofs.distanced.Steps.{measured_followed}
use Rattle.pass_frames_code.proofs.distanced.measured_addresses_are_followed.Goals as goal

pub returns : goal.returns
returns c = measured_followed
