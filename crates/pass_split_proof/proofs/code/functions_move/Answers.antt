use Rattle.pass_split_proof.proofs.code.Positions.{stands_moved}
use Rattle.pass_split_proof.proofs.code.functions_move.Goals as goal

pub returns : goal.returns
returns c = stands_moved
