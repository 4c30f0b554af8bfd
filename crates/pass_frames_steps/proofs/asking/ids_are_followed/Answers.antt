use Rattle.pass_frames_steps.proofs.asking.Ids.{id_followed}
use Rattle.pass_frames_steps.proofs.asking.ids_are_followed.Goals as goal

pub returns : goal.returns
returns c = id_followed
