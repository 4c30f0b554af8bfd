use Rattle.pass_proofs.proofs.frames.begin_order.Before.{slots_before}
use Rattle.pass_proofs.proofs.frames.begin_order.copied_slots_stand_before_begin.Goals as goal

pub returns : goal.returns
returns c = slots_before
