use Rattle.pass_frames_proof.proofs.entered.Cells.{cell_made}
use Rattle.pass_frames_proof.proofs.entered.cells_of_entries_are_there.Goals as goal

pub returns : goal.returns
returns c = cell_made
