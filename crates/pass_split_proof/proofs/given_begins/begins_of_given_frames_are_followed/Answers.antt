use Rattle.pass_split_proof.proofs.given_begins.Followed.{begun, given_begin_followed}
use Rattle.pass_split_proof.proofs.given_begins.begins_of_given_frames_are_followed.Goals as goal

pub returns : goal.returns
returns c g h s t r goes fine k room = given_begin_followed g h s t r goes fine k (room (begun g h s t r goes fine k))
