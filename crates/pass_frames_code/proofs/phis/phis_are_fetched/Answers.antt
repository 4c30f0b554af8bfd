use Rattle.pass_frames_code.proofs.phis.Ends.{phis_fetched}
use Rattle.pass_frames_code.proofs.phis.Values.{phis_seen}
use Rattle.pass_frames_code.proofs.phis.phis_are_fetched.Goals as goal

pub returns-clause-done : goal.returns-clause-done
returns-clause-done c = phis_fetched

pub returns-clause-values : goal.returns-clause-values
returns-clause-values c = phis_seen
