use Rattle.pass_edges_proof.proofs.edges.rules.Kept.{alive_kept}
use Rattle.pass_edges_proof.proofs.edges.rules.slots_stay_alive_where_edges_have_blocks.Goals as goal

pub returns : goal.returns
returns c = alive_kept
