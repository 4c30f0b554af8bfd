use Rattle.pass_frames_meaning.proofs.ends.Suspends.{suspend_told}
use Rattle.pass_frames_meaning.proofs.ends.suspends_are_told.Goals as goal

pub returns : goal.returns
returns c = suspend_told
