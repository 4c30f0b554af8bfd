use Rattle.pass_split_proof.proofs.code.Positions.{name_moves}
use Rattle.pass_split_proof.proofs.code.names_of_functions_move.Goals as goal

pub returns : goal.returns
returns c = name_moves
