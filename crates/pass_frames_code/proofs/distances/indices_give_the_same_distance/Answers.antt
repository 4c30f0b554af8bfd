use Rattle.pass_frames_code.proofs.distances.Indices.{same_distance}
use Rattle.pass_frames_code.proofs.distances.indices_give_the_same_distance.Goals as goal

pub returns : goal.returns
returns c = same_distance
