use Rattle.pass_frames_prices.proofs.priced.Sums.{place_few}
use Rattle.pass_frames_prices.proofs.priced.places_cost_what_is_left.Goals as goal

pub returns : goal.returns
returns c = place_few
