use Rattle.pass_edges_proof.proofs.edges.numbers.Edges.{edges_as_many}
use Rattle.pass_edges_proof.proofs.edges.numbers.suspends_are_as_many_where_edges_have_blocks.Goals as goal

pub returns : goal.returns
returns c = edges_as_many
