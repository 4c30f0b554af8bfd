use Rattle.pass_early_proof.proofs.early.frames.Functions.{conflicts_early}
use Rattle.pass_early_proof.proofs.early.frames.conflicts_stay.Goals as goal

pub returns : goal.returns
returns c = conflicts_early
