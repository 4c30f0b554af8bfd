use Rattle.pass_early_proof.proofs.early.slots.Laws.{classes_named}
use Rattle.pass_early_proof.proofs.early.slots.classes_stay_named.Goals as goal

pub returns : goal.returns
returns c = classes_named
