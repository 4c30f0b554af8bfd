use Rattle.pass_split_proof.proofs.states.Started.{frames_start, worlds_start}
use Rattle.pass_split_proof.proofs.states.worlds_start_beside.Goals as goal

pub returns-clause-worlds : goal.returns-clause-worlds
returns-clause-worlds c = worlds_start

pub returns-clause-frames : goal.returns-clause-frames
returns-clause-frames c = frames_start
