use Rattle.compiler.proofs.whole.numbers.Small.{framed_small}
use Rattle.compiler.proofs.whole.numbers.framed_shapes_are_small.Goals as goal

pub returns : goal.returns
returns c = framed_small
