use Rattle.pass_early_proof.proofs.early.frames.Functions.{alive_early}
use Rattle.pass_early_proof.proofs.early.frames.alive_stay.Goals as goal

pub returns : goal.returns
returns c = alive_early
