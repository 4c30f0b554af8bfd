use Rattle.pass_frames_prices.proofs.bounds.Ends.{end_cost_short}
use Rattle.pass_frames_prices.proofs.bounds.ends_take_few_steps.Goals as goal

pub returns : goal.returns
returns c = end_cost_short
