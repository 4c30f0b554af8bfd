use Rattle.pass_split_proof.proofs.marking.Followed.{start_followed}
use Rattle.pass_split_proof.proofs.marking.starts_of_slots_are_followed.Goals as goal

pub returns : goal.returns
returns c = start_followed
