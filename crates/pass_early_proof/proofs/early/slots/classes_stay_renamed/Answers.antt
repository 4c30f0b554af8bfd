use Rattle.pass_early_proof.proofs.early.slots.Laws.{classes_renamed}
use Rattle.pass_early_proof.proofs.early.slots.classes_stay_renamed.Goals as goal

pub returns : goal.returns
returns c = classes_renamed
