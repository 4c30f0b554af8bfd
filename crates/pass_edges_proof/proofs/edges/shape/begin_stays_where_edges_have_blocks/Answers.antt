use Rattle.pass_edges_proof.proofs.edges.shape.Kept.{begin_kept}
use Rattle.pass_edges_proof.proofs.edges.shape.begin_stays_where_edges_have_blocks.Goals as goal

pub returns : goal.returns
returns c = begin_kept
