use Rattle.compiler_theorem.proofs.known.Runs.{follow_known}
use Rattle.compiler_theorem.proofs.known.coroutines_of_sources_are_known.Goals as goal

pub returns : goal.returns
returns c = follow_known
