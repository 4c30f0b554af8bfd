use Rattle.pass_edges_proof.proofs.edges.rules.Kept.{crossing_kept}
use Rattle.pass_edges_proof.proofs.edges.rules.crossing_stays_where_edges_have_blocks.Goals as goal

pub returns : goal.returns
returns c = crossing_kept
