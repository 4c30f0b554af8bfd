use Rattle.pass_early_proof.proofs.early.frames.Frames.{frames_early}
use Rattle.pass_early_proof.proofs.early.frames.frames_stay.Goals as goal

pub returns : goal.returns
returns c = frames_early
