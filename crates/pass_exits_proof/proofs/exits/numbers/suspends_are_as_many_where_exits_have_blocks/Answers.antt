use Rattle.pass_exits_proof.proofs.exits.numbers.Edges.{exits_as_many}
use Rattle.pass_exits_proof.proofs.exits.numbers.suspends_are_as_many_where_exits_have_blocks.Goals as goal

pub returns : goal.returns
returns c = exits_as_many
