use Rattle.compiler_theorem.proofs.theorem.Built.{sources_built}
use Rattle.compiler_theorem.proofs.theorem.sources_are_built.Goals as goal

pub returns : goal.returns
returns c = sources_built
