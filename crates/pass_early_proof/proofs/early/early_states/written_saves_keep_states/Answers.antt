use Rattle.pass_early_proof.proofs.early.save_simulation.Simulation.{saves_correspond}
use Rattle.pass_early_proof.proofs.early.early_states.written_saves_keep_states.Goals as goal

pub returns : goal.returns
returns c = saves_correspond
