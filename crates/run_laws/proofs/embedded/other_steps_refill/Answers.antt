use Rattle.run_laws.proofs.embedded.Refills.{step_only}
use Rattle.run_laws.proofs.embedded.other_steps_refill.Goals as goal

pub returns : goal.returns
returns c = step_only
