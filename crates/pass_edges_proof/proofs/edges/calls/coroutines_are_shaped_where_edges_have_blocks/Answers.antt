use Rattle.pass_edges_proof.proofs.edges.calls.Edges.{edges_shaped}
use Rattle.pass_edges_proof.proofs.edges.calls.coroutines_are_shaped_where_edges_have_blocks.Goals as goal

pub returns : goal.returns
returns c = edges_shaped
