use Rattle.pass_proofs.proofs.frames.shape.Addresses.{addressed_shape}
use Rattle.pass_proofs.proofs.frames.shape.addressed_coroutines_are_shaped.Goals as goal

pub returns : goal.returns
returns c = addressed_shape
