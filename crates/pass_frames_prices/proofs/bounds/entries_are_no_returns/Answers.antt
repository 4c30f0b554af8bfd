use Rattle.pass_frames_prices.proofs.bounds.Entry.{entry_unreturned}
use Rattle.pass_frames_prices.proofs.bounds.entries_are_no_returns.Goals as goal

pub returns : goal.returns
returns c = entry_unreturned
