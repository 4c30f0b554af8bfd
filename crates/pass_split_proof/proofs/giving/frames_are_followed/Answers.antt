use Rattle.pass_split_proof.proofs.giving.Frames.{frame_followed, id_followed}
use Rattle.pass_split_proof.proofs.giving.frames_are_followed.Goals as goal

pub returns-clause-id : goal.returns-clause-id
returns-clause-id c = id_followed

pub returns-clause-frame : goal.returns-clause-frame
returns-clause-frame c = frame_followed
