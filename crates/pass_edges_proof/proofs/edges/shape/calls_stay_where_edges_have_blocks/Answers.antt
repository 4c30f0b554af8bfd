use Rattle.pass_edges_proof.proofs.edges.shape.Kept.{same_calls}
use Rattle.pass_edges_proof.proofs.edges.shape.calls_stay_where_edges_have_blocks.Goals as goal

pub returns : goal.returns
returns c = same_calls
