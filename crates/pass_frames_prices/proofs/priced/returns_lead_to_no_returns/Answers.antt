use Rattle.pass_frames_prices.proofs.priced.Left.{leads_away}
use Rattle.pass_frames_prices.proofs.priced.returns_lead_to_no_returns.Goals as goal

pub returns : goal.returns
returns c = leads_away
