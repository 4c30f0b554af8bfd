use Rattle.pass_proofs.proofs.frames.begin_order.Framed.{framed_addresses}
use Rattle.pass_proofs.proofs.frames.begin_order.frames_lie_behind_begin.Goals as goal

pub returns : goal.returns
returns c = framed_addresses
