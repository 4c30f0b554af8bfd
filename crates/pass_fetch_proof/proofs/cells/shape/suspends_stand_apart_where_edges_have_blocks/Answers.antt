use Rattle.pass_fetch_proof.proofs.cells.shape.Apart.{edges_apart}
use Rattle.pass_fetch_proof.proofs.cells.shape.suspends_stand_apart_where_edges_have_blocks.Goals as goal

pub returns : goal.returns
returns c = edges_apart
