use Rattle.pass_frames_prices.proofs.bounds.Values.{kept_few}
use Rattle.pass_frames_prices.proofs.bounds.kept_values_are_names.Goals as goal

pub returns : goal.returns
returns c = kept_few
