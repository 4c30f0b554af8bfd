use Rattle.pass_frames_meaning.proofs.coroutines.All.{coroutines_followed}
use Rattle.pass_frames_meaning.proofs.coroutines.steps_of_coroutines_are_followed.Goals as goal

pub returns : goal.returns
returns c = coroutines_followed
