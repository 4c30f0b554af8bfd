use Rattle.pass_frames_prices.proofs.priced.Afforded.{afforded}
use Rattle.pass_frames_prices.proofs.priced.jumps_are_afforded.Goals as goal

pub returns : goal.returns
returns c = afforded
