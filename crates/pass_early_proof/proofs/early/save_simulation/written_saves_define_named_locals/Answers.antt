use Rattle.pass_early_proof.proofs.early.save_simulation.Tables.{locals_stay_named}
use Rattle.pass_early_proof.proofs.early.save_simulation.written_saves_define_named_locals.Goals as goal

pub returns : goal.returns
returns c = locals_stay_named
