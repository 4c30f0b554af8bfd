use Rattle.pass_edges_proof.proofs.edges.spelled.Edges.{edges_spelled}
use Rattle.pass_edges_proof.proofs.edges.spelled.edge_blocks_can_be_spelled.Goals as goal

pub returns : goal.returns
returns c = edges_spelled
