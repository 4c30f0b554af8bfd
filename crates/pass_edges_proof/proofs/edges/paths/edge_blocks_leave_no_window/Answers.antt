use Rattle.pass_edges_proof.proofs.edges.paths.Left.{none_left}
use Rattle.pass_edges_proof.proofs.edges.paths.edge_blocks_leave_no_window.Goals as goal

pub returns : goal.returns
returns c = none_left
