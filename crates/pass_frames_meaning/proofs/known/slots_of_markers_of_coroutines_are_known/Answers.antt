use Rattle.pass_frames_meaning.proofs.known.Markers.{may_mark}
use Rattle.pass_frames_meaning.proofs.known.slots_of_markers_of_coroutines_are_known.Goals as goal

pub returns : goal.returns
returns c = may_mark
