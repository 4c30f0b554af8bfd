use Rattle.pass_edges_proof.proofs.edges.paths.Left.{left_moved}
use Rattle.pass_edges_proof.proofs.edges.paths.left_windows_are_moved.Goals as goal

pub returns : goal.returns
returns c = left_moved
