use Rattle.pass_frames_meaning.proofs.kinds.Ids.{id_followed}
use Rattle.pass_frames_meaning.proofs.kinds.ids_of_coroutines_are_followed.Goals as goal

pub returns : goal.returns
returns c = id_followed
