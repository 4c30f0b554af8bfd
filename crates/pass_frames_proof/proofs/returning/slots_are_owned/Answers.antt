use Rattle.pass_frames_proof.proofs.returning.Owned.{slots_owned}
use Rattle.pass_frames_proof.proofs.returning.slots_are_owned.Goals as goal

pub returns : goal.returns
returns c = slots_owned
