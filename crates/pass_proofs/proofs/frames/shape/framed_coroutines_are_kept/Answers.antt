use Rattle.pass_proofs.proofs.frames.shape.Framed.{all_framed}
use Rattle.pass_proofs.proofs.frames.shape.framed_coroutines_are_kept.Goals as goal

pub returns : goal.returns
returns c = all_framed
