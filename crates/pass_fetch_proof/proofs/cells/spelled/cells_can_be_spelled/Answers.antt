use Rattle.pass_fetch_proof.proofs.cells.spelled.Celled.{cells_spelled}
use Rattle.pass_fetch_proof.proofs.cells.spelled.cells_can_be_spelled.Goals as goal

pub returns : goal.returns
returns c = cells_spelled
