use Rattle.pass_frames_meaning.proofs.known.Marked.{plain_marked}
use Rattle.pass_frames_meaning.proofs.known.slots_of_markers_are_known.Goals as goal

pub returns : goal.returns
returns c = plain_marked
