use Rattle.compiler_theorem.proofs.ends.Runs.{known}
use Rattle.compiler_theorem.proofs.ends.ends_of_sources_are_known.Goals as goal

pub returns : goal.returns
returns c = known
