use Rattle.pass_frames_code.proofs.lines.SavedRows.{values_saved}
use Rattle.pass_frames_code.proofs.lines.values_are_saved.Goals as goal

pub returns : goal.returns
returns c = values_saved
