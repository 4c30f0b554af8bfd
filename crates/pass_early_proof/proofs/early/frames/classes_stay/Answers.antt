use Rattle.pass_early_proof.proofs.early.frames.Functions.{classes_early}
use Rattle.pass_early_proof.proofs.early.frames.classes_stay.Goals as goal

pub returns : goal.returns
returns c = classes_early
