use Rattle.frame_good.proofs.Laid.{shared_good}
use Rattle.frame_good.proofs.layouts_by_conflicts_are_good.Goals as goal

pub returns : goal.returns
returns c = shared_good
