use Rattle.pass_split_proof.proofs.given_begins.Stored.{begins_at}
use Rattle.pass_split_proof.proofs.given_begins.given_frames_begin_beside.Goals as goal

pub returns : goal.returns
returns c = begins_at
