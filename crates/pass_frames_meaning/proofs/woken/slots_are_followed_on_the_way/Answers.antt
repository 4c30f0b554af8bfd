use Rattle.pass_frames_meaning.proofs.woken.Entering.{entering_followed}
use Rattle.pass_frames_meaning.proofs.woken.slots_are_followed_on_the_way.Goals as goal

pub returns : goal.returns
returns c = entering_followed
