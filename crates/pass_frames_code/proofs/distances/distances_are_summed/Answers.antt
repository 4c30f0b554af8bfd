use Rattle.pass_frames_code.proofs.distances.Sums.{sums_up}
use Rattle.pass_frames_code.proofs.distances.distances_are_summed.Goals as goal

pub returns : goal.returns
returns c = sums_up
