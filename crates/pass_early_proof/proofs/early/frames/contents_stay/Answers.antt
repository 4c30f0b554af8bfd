use Rattle.pass_early_proof.proofs.early.frames.Frames.{contents_early}
use Rattle.pass_early_proof.proofs.early.frames.contents_stay.Goals as goal

pub returns : goal.returns
returns c = contents_early
