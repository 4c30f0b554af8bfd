use Rattle.run_laws_worked.proofs.Stored.{hidden_joined, placed, slot_places, target_takes}
use Rattle.run_laws_worked.proofs.slots_come_to_stand_in_frames.Goals as goal

pub returns-clause-joined : goal.returns-clause-joined
returns-clause-joined c = hidden_joined

pub returns-clause-places : goal.returns-clause-places
returns-clause-places c = slot_places

pub returns-clause-asked : goal.returns-clause-asked
returns-clause-asked c = placed

pub returns-clause-target : goal.returns-clause-target
returns-clause-target c = target_takes
