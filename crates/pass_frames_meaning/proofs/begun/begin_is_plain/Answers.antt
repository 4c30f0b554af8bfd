use Rattle.pass_frames_meaning.proofs.begun.Begun.{begin_plain}
use Rattle.pass_frames_meaning.proofs.begun.begin_is_plain.Goals as goal

pub returns : goal.returns
returns c = begin_plain
