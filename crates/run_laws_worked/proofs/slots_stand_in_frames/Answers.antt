use Rattle.run_laws_worked.proofs.Slots.{slot_stands_in_frame}
use Rattle.run_laws_worked.proofs.slots_stand_in_frames.Goals as goal

pub returns : goal.returns
returns c = slot_stands_in_frame
