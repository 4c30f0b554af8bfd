use Rattle.pass_elide_proof.proofs.Alike.{allowed}
use Rattle.pass_elide_proof.proofs.frames.alike_frames_give_alike_rights.Goals as goal

pub returns : goal.returns
returns c = allowed
