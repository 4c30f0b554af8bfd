use Rattle.pass_frames_prices.proofs.bounds.Links.{distances_few}
use Rattle.pass_frames_prices.proofs.bounds.distances_are_of_getelementptrs.Goals as goal

pub returns : goal.returns
returns c = distances_few
