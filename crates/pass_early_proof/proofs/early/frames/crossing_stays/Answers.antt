use Rattle.pass_early_proof.proofs.early.frames.Functions.{crossing_early}
use Rattle.pass_early_proof.proofs.early.frames.crossing_stays.Goals as goal

pub returns : goal.returns
returns c = crossing_early
