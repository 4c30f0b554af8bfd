use Rattle.pass_frames_proof.proofs.early.Moved.{came_there}
use Rattle.pass_frames_proof.proofs.early.copied_blocks_come_there.Goals as goal

pub returns : goal.returns
returns c = came_there
