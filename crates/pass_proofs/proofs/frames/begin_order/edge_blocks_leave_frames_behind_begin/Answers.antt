use Rattle.pass_proofs.proofs.frames.begin_order.Edged.{edges_behind}
use Rattle.pass_proofs.proofs.frames.begin_order.edge_blocks_leave_frames_behind_begin.Goals as goal

pub returns : goal.returns
returns c = edges_behind
