use Rattle.run_accepted.proofs.EdgeFrames.{needs_home}
use Rattle.run_accepted.proofs.frames_stay_where_edges_have_blocks.Goals as goal

pub returns : goal.returns
returns c = needs_home
