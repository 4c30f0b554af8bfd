use Rattle.pass_frames_meaning.proofs.coroutines.Marks.{marker_at}
use Rattle.pass_frames_meaning.proofs.coroutines.markers_of_coroutines_are_followed.Goals as goal

pub returns : goal.returns
returns c = marker_at
