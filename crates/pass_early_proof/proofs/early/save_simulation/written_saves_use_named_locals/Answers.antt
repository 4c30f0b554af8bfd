use Rattle.pass_early_proof.proofs.early.save_simulation.Tables.{uses_stay_named}
use Rattle.pass_early_proof.proofs.early.save_simulation.written_saves_use_named_locals.Goals as goal

pub returns : goal.returns
returns c = uses_stay_named
