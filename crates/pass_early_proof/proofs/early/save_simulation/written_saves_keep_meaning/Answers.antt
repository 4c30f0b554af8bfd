use Rattle.pass_early_proof.proofs.early.save_simulation.Simulation.{saves_agree}
use Rattle.pass_early_proof.proofs.early.save_simulation.written_saves_keep_meaning.Goals as goal

pub returns : goal.returns
returns c = saves_agree
