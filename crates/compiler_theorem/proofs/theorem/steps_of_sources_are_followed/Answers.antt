use Rattle.compiler_theorem.proofs.theorem.Steps.{covered_followed}
use Rattle.compiler_theorem.proofs.theorem.steps_of_sources_are_followed.Goals as goal

pub returns : goal.returns
returns c = covered_followed
