use Rattle.pass_split_proof.proofs.states.Killed.{returned_beside, returned_frames}
use Rattle.pass_split_proof.proofs.states.slots_die_beside.Goals as goal

pub returns-clause-beside : goal.returns-clause-beside
returns-clause-beside c = returned_beside

pub returns-clause-frames : goal.returns-clause-frames
returns-clause-frames c = returned_frames
