use Rattle.pass_split_proof.proofs.code.Positions.{others_stay}
use Rattle.pass_split_proof.proofs.code.other_names_are_no_functions.Goals as goal

pub returns : goal.returns
returns c = others_stay
