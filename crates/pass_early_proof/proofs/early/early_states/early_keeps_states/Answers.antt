use Rattle.pass_early_proof.proofs.early.early_states.Composition.{early_corresponds}
use Rattle.pass_early_proof.proofs.early.early_states.early_keeps_states.Goals as goal

pub returns : goal.returns
returns c = early_corresponds
