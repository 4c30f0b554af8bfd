use Rattle.pass_frames_meaning.proofs.woken.Ramps.{ramps_all}
use Rattle.pass_frames_meaning.proofs.woken.calls_of_coroutines_enter_ramps.Goals as goal

pub returns : goal.returns
returns c = ramps_all
