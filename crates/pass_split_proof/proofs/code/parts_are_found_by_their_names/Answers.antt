use Rattle.pass_split_proof.proofs.code.Positions.{found_by_name}
use Rattle.pass_split_proof.proofs.code.parts_are_found_by_their_names.Goals as goal

pub returns : goal.returns
returns c = found_by_name
