use Rattle.pass_frames_meaning.proofs.ends.Windows.{windows_placed}
use Rattle.pass_frames_meaning.proofs.ends.windows_stay_in_place.Goals as goal

pub returns : goal.returns
returns c = windows_placed
