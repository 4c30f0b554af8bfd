use Rattle.pass_split_proof.proofs.places.Transfers.{suspend_behind}
use Rattle.pass_split_proof.proofs.places.transfers_stand_before_their_suspends.Goals as goal

pub returns : goal.returns
returns c = suspend_behind
