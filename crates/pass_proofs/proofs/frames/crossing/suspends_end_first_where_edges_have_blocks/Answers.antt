use Rattle.pass_proofs.proofs.frames.crossing.Ending.{edges_end_first}
use Rattle.pass_proofs.proofs.frames.crossing.suspends_end_first_where_edges_have_blocks.Goals as goal

pub returns : goal.returns
returns c = edges_end_first
