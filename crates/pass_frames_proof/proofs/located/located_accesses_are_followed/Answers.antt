use Rattle.pass_frames_proof.proofs.located.Followed.{access_followed}
use Rattle.pass_frames_proof.proofs.located.located_accesses_are_followed.Goals as goal

pub returns : goal.returns
returns c = access_followed
