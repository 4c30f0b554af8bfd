use Rattle.pass_early_proof.proofs.early.begin_naming.Simulation.{named_corresponds}
use Rattle.pass_early_proof.proofs.early.early_states.naming_keeps_states.Goals as goal

pub returns : goal.returns
returns c = named_corresponds
