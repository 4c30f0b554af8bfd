use Rattle.pass_exits_proof.proofs.split.edges.Returns.{later_parts_return_nothing}
use Rattle.pass_exits_proof.proofs.split.edges.parts_that_go_on_return_nothing.Goals as goal

pub returns : goal.returns
returns c = later_parts_return_nothing
