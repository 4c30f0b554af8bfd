use Rattle.pass_split_proof.proofs.states.Statuses.{status_beside, status_frames}
use Rattle.pass_split_proof.proofs.states.instances_change_beside.Goals as goal

pub returns-clause-beside : goal.returns-clause-beside
returns-clause-beside c = status_beside

pub returns-clause-frames : goal.returns-clause-frames
returns-clause-frames c = status_frames
