use Rattle.pass_proofs.proofs.frames.numbers.Small.{shape_small}
use Rattle.pass_proofs.proofs.frames.numbers.layouts_are_small.Goals as goal

pub returns : goal.returns
returns c = shape_small
