use Rattle.pass_frames_code.proofs.followed.Assembly.{followed_keep}
use Rattle.pass_frames_code.proofs.followed.frames_keep_meaning.Goals as goal

pub returns : goal.returns
returns c = followed_keep
