use Rattle.pass_split_proof.proofs.places.Coded.{has_code}
use Rattle.pass_split_proof.proofs.places.instructions_have_code.Goals as goal

pub returns : goal.returns
returns c = has_code
