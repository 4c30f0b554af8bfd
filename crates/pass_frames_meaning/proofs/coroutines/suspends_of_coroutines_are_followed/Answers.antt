use Rattle.pass_frames_meaning.proofs.coroutines.Suspends.{suspend_at}
use Rattle.pass_frames_meaning.proofs.coroutines.suspends_of_coroutines_are_followed.Goals as goal

pub returns : goal.returns
returns c = suspend_at
