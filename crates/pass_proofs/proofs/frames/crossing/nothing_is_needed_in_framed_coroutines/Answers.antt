use Rattle.pass_proofs.proofs.frames.crossing.Whole.{framed_nothing}
use Rattle.pass_proofs.proofs.frames.crossing.nothing_is_needed_in_framed_coroutines.Goals as goal

pub returns : goal.returns
returns c = framed_nothing
