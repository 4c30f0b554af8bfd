use Rattle.pass_frames_code.proofs.phis.Twice.{pairs_twice, phis_get_twice}
use Rattle.pass_frames_code.proofs.phis.phis_are_fetched_twice.Goals as goal

pub returns-clause-values : goal.returns-clause-values
returns-clause-values c = phis_get_twice

pub returns-clause-pairs : goal.returns-clause-pairs
returns-clause-pairs c = pairs_twice
