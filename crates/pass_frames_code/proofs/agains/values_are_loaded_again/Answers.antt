use Rattle.pass_frames_code.proofs.agains.Rows.{loaded_again}
use Rattle.pass_frames_code.proofs.agains.values_are_loaded_again.Goals as goal

pub returns : goal.returns
returns c = loaded_again
