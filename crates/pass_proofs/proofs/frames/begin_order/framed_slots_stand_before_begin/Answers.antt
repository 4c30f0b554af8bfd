use Rattle.pass_proofs.proofs.frames.begin_order.Framed.{framed_copies}
use Rattle.pass_proofs.proofs.frames.begin_order.framed_slots_stand_before_begin.Goals as goal

pub returns : goal.returns
returns c = framed_copies
