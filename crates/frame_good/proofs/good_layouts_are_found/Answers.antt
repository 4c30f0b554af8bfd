use Rattle.frame_good.proofs.Frames.{layouts_found}
use Rattle.frame_good.proofs.good_layouts_are_found.Goals as goal

pub returns : goal.returns
returns c = layouts_found
