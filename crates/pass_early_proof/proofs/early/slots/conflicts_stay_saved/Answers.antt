use Rattle.pass_early_proof.proofs.early.slots.Laws.{conflicts_saved}
use Rattle.pass_early_proof.proofs.early.slots.conflicts_stay_saved.Goals as goal

pub returns : goal.returns
returns c = conflicts_saved
