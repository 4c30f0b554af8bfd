use Rattle.pass_split_proof.proofs.marking.Followed.{end_followed}
use Rattle.pass_split_proof.proofs.marking.ends_of_slots_are_followed.Goals as goal

pub returns : goal.returns
returns c = end_followed
