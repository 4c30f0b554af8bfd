use Rattle.pass_split_proof.proofs.places.Laws.{stop_of}
use Rattle.pass_split_proof.proofs.places.suspends_take_the_stop_edge.Goals as goal

pub returns : goal.returns
returns c = stop_of
