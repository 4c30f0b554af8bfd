use Rattle.pass_frames_meaning.proofs.ends.Jumps.{jump_followed}
use Rattle.pass_frames_meaning.proofs.ends.jumps_of_coroutines_are_followed.Goals as goal

pub returns : goal.returns
returns c = jump_followed
