use Rattle.compiler_theorem.proofs.kinds.Running.{saves_running}
use Rattle.compiler_theorem.proofs.kinds.saving_instances_run.Goals as goal

pub returns : goal.returns
returns c = saves_running
