-- Values in cells are instructions that are woven in.
use Rattle.pass_fetch_proof.proofs.cells.rules.Whole.{is_woven}
use Rattle.pass_fetch_proof.proofs.cells.rules.cells_are_woven.Goals as goal

pub returns : goal.returns
returns c m k f crossing local rules asked = is_woven m k f rules crossing local asked
