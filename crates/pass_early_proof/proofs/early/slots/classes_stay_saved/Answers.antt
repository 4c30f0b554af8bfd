use Rattle.pass_early_proof.proofs.early.slots.Laws.{classes_saved}
use Rattle.pass_early_proof.proofs.early.slots.classes_stay_saved.Goals as goal

pub returns : goal.returns
returns c = classes_saved
