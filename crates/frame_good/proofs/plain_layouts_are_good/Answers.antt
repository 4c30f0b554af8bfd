use Rattle.frame_good.proofs.Laid.{plain_good}
use Rattle.frame_good.proofs.plain_layouts_are_good.Goals as goal

pub returns : goal.returns
returns c = plain_good
