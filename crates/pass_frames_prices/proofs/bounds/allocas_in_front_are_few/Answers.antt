use Rattle.pass_frames_prices.proofs.bounds.Lean.{allocas_few}
use Rattle.pass_frames_prices.proofs.bounds.allocas_in_front_are_few.Goals as goal

pub returns : goal.returns
returns c = allocas_few
