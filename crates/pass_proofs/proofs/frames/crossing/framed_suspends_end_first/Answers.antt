use Rattle.pass_proofs.proofs.frames.crossing.Whole.{framed_end_first}
use Rattle.pass_proofs.proofs.frames.crossing.framed_suspends_end_first.Goals as goal

pub returns : goal.returns
returns c = framed_end_first
