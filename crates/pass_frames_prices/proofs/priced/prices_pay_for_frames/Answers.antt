use Rattle.pass_frames_prices.proofs.priced.Paid.{pays}
use Rattle.pass_frames_prices.proofs.priced.prices_pay_for_frames.Goals as goal

pub returns : goal.returns
returns c = pays
