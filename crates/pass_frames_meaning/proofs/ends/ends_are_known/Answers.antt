use Rattle.pass_frames_meaning.proofs.ends.All.{ends_known}
use Rattle.pass_frames_meaning.proofs.ends.ends_are_known.Goals as goal

pub returns : goal.returns
returns c = ends_known
