use Rattle.pass_early_proof.proofs.early.slots.Laws.{alive_named}
use Rattle.pass_early_proof.proofs.early.slots.alive_stay_named.Goals as goal

pub returns : goal.returns
returns c = alive_named
