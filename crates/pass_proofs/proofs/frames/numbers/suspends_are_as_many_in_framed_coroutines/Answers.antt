use Rattle.pass_proofs.proofs.frames.numbers.Framed.{framed_as_many}
use Rattle.pass_proofs.proofs.frames.numbers.suspends_are_as_many_in_framed_coroutines.Goals as goal

pub returns : goal.returns
returns c = framed_as_many
