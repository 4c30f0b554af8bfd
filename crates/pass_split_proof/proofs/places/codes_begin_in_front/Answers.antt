use Rattle.pass_split_proof.proofs.places.Laws.{front_of}
use Rattle.pass_split_proof.proofs.places.codes_begin_in_front.Goals as goal

pub returns : goal.returns
returns c = front_of
