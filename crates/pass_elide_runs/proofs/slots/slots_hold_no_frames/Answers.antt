use Rattle.pass_elide_runs.proofs.OwnedSlots.{marks_slot, own_slots}
use Rattle.pass_elide_runs.proofs.slots.slots_hold_no_frames.Goals as goal

pub returns-clause-own : goal.returns-clause-own
returns-clause-own c e s slotted has names plain is kinds = own_slots s slotted e has names plain is kinds

pub returns-clause-marks : goal.returns-clause-marks
returns-clause-marks c e s args slotted has names marks = marks_slot s slotted e has names args marks
