use Rattle.pass_frames_meaning.proofs.kinds.Saves.{save_at}
use Rattle.pass_frames_meaning.proofs.kinds.saves_of_coroutines_are_followed.Goals as goal

pub returns : goal.returns
returns c = save_at
