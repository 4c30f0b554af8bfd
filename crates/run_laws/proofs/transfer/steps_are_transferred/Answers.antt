use Rattle.run_laws.proofs.transfer.Over.{step_over}
use Rattle.run_laws.proofs.transfer.steps_are_transferred.Goals as goal

pub returns : goal.returns
returns c = step_over
