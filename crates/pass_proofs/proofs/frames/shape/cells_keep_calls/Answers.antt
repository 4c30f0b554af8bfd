use Rattle.pass_proofs.proofs.frames.shape.Cells.{cells_keep}
use Rattle.pass_proofs.proofs.frames.shape.cells_keep_calls.Goals as goal

pub returns : goal.returns
returns c = cells_keep
