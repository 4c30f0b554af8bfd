use Rattle.pass_frames_meaning.proofs.slotted.Facts.{instances_placed, listed_slots, own_slots, slot_kinds, slots_apart}
use Rattle.pass_frames_meaning.proofs.slotted.Facts.{slots_listed, slots_once, slots_there}
use Rattle.pass_frames_meaning.proofs.slotted.slotted_states_have_their_slots.Goals as goal

pub returns-clause-there : goal.returns-clause-there
returns-clause-there c = slots_there

pub returns-clause-once : goal.returns-clause-once
returns-clause-once c = slots_once

pub returns-clause-live : goal.returns-clause-live
returns-clause-live c = listed_slots

pub returns-clause-listed : goal.returns-clause-listed
returns-clause-listed c = slots_listed

pub returns-clause-apart : goal.returns-clause-apart
returns-clause-apart c = slots_apart

pub returns-clause-own : goal.returns-clause-own
returns-clause-own c = own_slots

pub returns-clause-kinds : goal.returns-clause-kinds
returns-clause-kinds c = slot_kinds

pub returns-clause-instances : goal.returns-clause-instances
returns-clause-instances c = instances_placed
