use Rattle.compiler_theorem.proofs.known.Runs.{step_known}
use Rattle.compiler_theorem.proofs.known.steps_of_sources_are_known.Goals as goal

pub returns : goal.returns
returns c = step_known
