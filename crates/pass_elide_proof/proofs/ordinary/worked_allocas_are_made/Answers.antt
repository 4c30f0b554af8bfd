use Rattle.pass_elide_proof.proofs.WorkedSteps.{alloca_made}
use Rattle.pass_elide_proof.proofs.ordinary.worked_allocas_are_made.Goals as goal

pub returns : goal.returns
returns c = alloca_made
