use Rattle.pass_frames_prices.proofs.bounds.Returned.{front_few}
use Rattle.pass_frames_prices.proofs.bounds.fronts_are_short.Goals as goal

pub returns : goal.returns
returns c = front_few
