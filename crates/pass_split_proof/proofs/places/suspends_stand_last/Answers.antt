use Rattle.pass_split_proof.proofs.places.Stops.{stop_there}
use Rattle.pass_split_proof.proofs.places.suspends_stand_last.Goals as goal

pub returns : goal.returns
returns c = λ m k f begin block at i layout x here e. stop_there m k f begin x layout block at i here e
