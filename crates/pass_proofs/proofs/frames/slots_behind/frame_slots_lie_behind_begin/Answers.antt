use Rattle.pass_proofs.proofs.frames.slots_behind.Behind.{blocks_behind}
use Rattle.pass_proofs.proofs.frames.slots_behind.frame_slots_lie_behind_begin.Goals as goal

pub returns : goal.returns
returns c = blocks_behind
