use Rattle.pass_frames_meaning.proofs.others.Others.{others_followed}
use Rattle.pass_frames_meaning.proofs.others.other_functions_are_followed.Goals as goal

pub returns : goal.returns
returns c = others_followed
