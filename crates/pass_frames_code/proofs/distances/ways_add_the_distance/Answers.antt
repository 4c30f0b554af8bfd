use Rattle.pass_frames_code.proofs.distances.Ways.{distance_sum}
use Rattle.pass_frames_code.proofs.distances.ways_add_the_distance.Goals as goal

pub returns : goal.returns
returns c = distance_sum
