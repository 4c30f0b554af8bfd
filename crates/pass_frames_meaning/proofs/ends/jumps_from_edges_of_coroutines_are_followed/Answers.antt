use Rattle.pass_frames_meaning.proofs.ends.Edges.{edge_jump_followed}
use Rattle.pass_frames_meaning.proofs.ends.jumps_from_edges_of_coroutines_are_followed.Goals as goal

pub returns : goal.returns
returns c = edge_jump_followed
