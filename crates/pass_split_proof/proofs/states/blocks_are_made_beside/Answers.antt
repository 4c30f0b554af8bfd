use Rattle.pass_split_proof.proofs.states.Fresh.{fresh_beside, fresh_frames}
use Rattle.pass_split_proof.proofs.states.blocks_are_made_beside.Goals as goal

pub returns-clause-beside : goal.returns-clause-beside
returns-clause-beside c = fresh_beside

pub returns-clause-frames : goal.returns-clause-frames
returns-clause-frames c = fresh_frames
