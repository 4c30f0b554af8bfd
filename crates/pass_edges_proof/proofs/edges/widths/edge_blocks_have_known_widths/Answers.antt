use Rattle.pass_edges_proof.proofs.edges.widths.Widths.{edge_widths}
use Rattle.pass_edges_proof.proofs.edges.widths.edge_blocks_have_known_widths.Goals as goal

pub returns : goal.returns
returns c = edge_widths
