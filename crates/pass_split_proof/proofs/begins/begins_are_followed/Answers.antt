use Rattle.pass_split_proof.proofs.begins.BeginFollowed.{begin_followed}
use Rattle.pass_split_proof.proofs.begins.begins_are_followed.Goals as goal

pub returns : goal.returns
returns c = begin_followed
