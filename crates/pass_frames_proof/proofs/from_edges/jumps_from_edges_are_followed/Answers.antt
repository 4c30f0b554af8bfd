use Rattle.pass_frames_proof.proofs.from_edges.Jumped.{edge_followed}
use Rattle.pass_frames_proof.proofs.from_edges.jumps_from_edges_are_followed.Goals as goal

pub returns : goal.returns
returns c = edge_followed
