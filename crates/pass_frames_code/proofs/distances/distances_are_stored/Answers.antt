use Rattle.pass_frames_code.proofs.distances.Measured.{distance_measured}
use Rattle.pass_frames_code.proofs.distances.distances_are_stored.Goals as goal

pub returns : goal.returns
returns c = distance_measured
