use Rattle.pass_early_proof.proofs.early.slots.Laws.{alive_renamed}
use Rattle.pass_early_proof.proofs.early.slots.alive_stay_renamed.Goals as goal

pub returns : goal.returns
returns c = alive_renamed
