use Rattle.pass_split_proof.proofs.places.Laws.{end_of}
use Rattle.pass_split_proof.proofs.places.ends_of_blocks_have_code.Goals as goal

pub returns : goal.returns
returns c = end_of
