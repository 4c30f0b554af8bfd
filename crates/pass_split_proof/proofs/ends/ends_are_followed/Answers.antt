use Rattle.pass_split_proof.proofs.ends.Ended.{ramp_ends}
use Rattle.pass_split_proof.proofs.ends.ends_are_followed.Goals as goal

pub returns : goal.returns
returns c = ramp_ends
