use Rattle.pass_frames_prices.proofs.priced.Sums.{run_paid}
use Rattle.pass_frames_prices.proofs.priced.afforded_runs_are_paid.Goals as goal

pub returns : goal.returns
returns c = run_paid
