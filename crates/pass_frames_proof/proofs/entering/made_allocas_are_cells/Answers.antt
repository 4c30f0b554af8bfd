use Rattle.pass_frames_proof.proofs.entering.Cells.{cells_made}
use Rattle.pass_frames_proof.proofs.entering.made_allocas_are_cells.Goals as goal

pub returns : goal.returns
returns c = cells_made
