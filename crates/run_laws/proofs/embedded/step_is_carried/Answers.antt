use Rattle.run_laws.proofs.embedded.Carried.{step_carried}
use Rattle.run_laws.proofs.embedded.step_is_carried.Goals as goal

pub returns : goal.returns
returns c = step_carried
