use Rattle.frame_good.proofs.Frames.{layouts_good}
use Rattle.frame_good.proofs.layouts_of_modules_are_good.Goals as goal

pub returns : goal.returns
returns c = layouts_good
