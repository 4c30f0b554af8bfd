use Rattle.pass_frames_meaning.proofs.known.Operands.{may_follow}
use Rattle.pass_frames_meaning.proofs.known.operands_are_known.Goals as goal

pub returns : goal.returns
returns c = may_follow
