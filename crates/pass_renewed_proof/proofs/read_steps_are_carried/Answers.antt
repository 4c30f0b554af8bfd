use Rattle.pass_renewed_proof.proofs.Steps.{step_over}
use Rattle.pass_renewed_proof.proofs.read_steps_are_carried.Goals as goal

pub returns : goal.returns
returns c = step_over
