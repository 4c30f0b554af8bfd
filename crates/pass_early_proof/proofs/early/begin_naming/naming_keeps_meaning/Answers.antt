use Rattle.pass_early_proof.proofs.early.begin_naming.Simulation.{named_agrees}
use Rattle.pass_early_proof.proofs.early.begin_naming.naming_keeps_meaning.Goals as goal

pub returns : goal.returns
returns c = named_agrees
