use Rattle.pass_early_proof.proofs.early.slots.Laws.{conflicts_named}
use Rattle.pass_early_proof.proofs.early.slots.conflicts_stay_named.Goals as goal

pub returns : goal.returns
returns c = conflicts_named
