use Rattle.pass_frames_proof.proofs.from_edges.Jumped.{first_done}
use Rattle.pass_frames_proof.proofs.from_edges.fronts_of_edges_are_executed.Goals as goal

pub returns : goal.returns
returns c = first_done
