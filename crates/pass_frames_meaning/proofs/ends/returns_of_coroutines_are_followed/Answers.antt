use Rattle.pass_frames_meaning.proofs.ends.Returns.{return_followed}
use Rattle.pass_frames_meaning.proofs.ends.returns_of_coroutines_are_followed.Goals as goal

pub returns : goal.returns
returns c = return_followed
