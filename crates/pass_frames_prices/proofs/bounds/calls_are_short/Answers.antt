use Rattle.pass_frames_prices.proofs.bounds.Calls.{call_short}
use Rattle.pass_frames_prices.proofs.bounds.calls_are_short.Goals as goal

pub returns : goal.returns
returns c = call_short
