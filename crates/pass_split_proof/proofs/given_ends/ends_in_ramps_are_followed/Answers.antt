use Rattle.pass_split_proof.proofs.given_ends.Ended.{any_ramp_ends}
use Rattle.pass_split_proof.proofs.given_ends.ends_in_ramps_are_followed.Goals as goal

pub returns : goal.returns
returns c = any_ramp_ends
