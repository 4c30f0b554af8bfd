use Rattle.pass_edges_proof.proofs.edges.unused_frames.Edges.{unused_where_edges_have_blocks}
use Rattle.pass_edges_proof.proofs.edges.unused_frames.edge_blocks_use_no_frame.Goals as goal

pub returns : goal.returns
returns c = unused_where_edges_have_blocks
