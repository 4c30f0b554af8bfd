use Rattle.pass_early_proof.proofs.early.slots.Laws.{alive_saved}
use Rattle.pass_early_proof.proofs.early.slots.alive_stay_saved.Goals as goal

pub returns : goal.returns
returns c = alive_saved
