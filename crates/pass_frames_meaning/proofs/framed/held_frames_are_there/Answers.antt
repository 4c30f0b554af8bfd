use Rattle.pass_frames_meaning.proofs.framed.There.{frame_same, frame_there}
use Rattle.pass_frames_meaning.proofs.framed.held_frames_are_there.Goals as goal

pub returns-clause-there : goal.returns-clause-there
returns-clause-there c = frame_there

pub returns-clause-same : goal.returns-clause-same
returns-clause-same c = frame_same
