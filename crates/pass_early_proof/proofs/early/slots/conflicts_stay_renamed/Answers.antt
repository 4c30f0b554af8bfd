use Rattle.pass_early_proof.proofs.early.slots.Laws.{conflicts_renamed}
use Rattle.pass_early_proof.proofs.early.slots.conflicts_stay_renamed.Goals as goal

pub returns : goal.returns
returns c = conflicts_renamed
