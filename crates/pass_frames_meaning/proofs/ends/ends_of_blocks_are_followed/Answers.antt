use Rattle.pass_frames_meaning.proofs.ends.All.{ends_followed}
use Rattle.pass_frames_meaning.proofs.ends.ends_of_blocks_are_followed.Goals as goal

pub returns : goal.returns
returns c = ends_followed
