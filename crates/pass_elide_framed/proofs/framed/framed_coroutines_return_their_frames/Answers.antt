use Rattle.pass_elide_framed.proofs.Returned.{framed_returns}
use Rattle.pass_elide_framed.proofs.framed.framed_coroutines_return_their_frames.Goals as goal

pub returns : goal.returns
returns c = framed_returns
