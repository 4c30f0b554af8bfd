use Rattle.run_laws_worked.proofs.Frames.{frame_rights_fit}
use Rattle.run_laws_worked.proofs.frame_rights_are_of_bytes.Goals as goal

pub returns : goal.returns
returns c = frame_rights_fit
