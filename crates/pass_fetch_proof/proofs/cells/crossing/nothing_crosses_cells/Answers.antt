-- Nothing is needed behind a suspend.
use Rattle.pass_fetch_proof.proofs.cells.crossing.Whole.{nothing_needed}
use Rattle.pass_fetch_proof.proofs.cells.crossing.nothing_crosses_cells.Goals as goal

pub returns : goal.returns
returns c m k f crossing local rules asked apart crossed = nothing_needed m k f rules crossing local asked apart crossed
