use Rattle.pass_frames_meaning.proofs.kinds.Begins.{begin_at_place}
use Rattle.pass_frames_meaning.proofs.kinds.begins_of_coroutines_are_followed.Goals as goal

pub returns : goal.returns
returns c = begin_at_place
