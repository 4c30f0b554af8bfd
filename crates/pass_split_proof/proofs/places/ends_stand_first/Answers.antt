use Rattle.pass_split_proof.proofs.places.Transfers.{end_first}
use Rattle.pass_split_proof.proofs.places.ends_stand_first.Goals as goal

pub returns : goal.returns
returns c = end_first
