use Rattle.compiler_theorem.proofs.ends.Runs.{may_go_on}
use Rattle.compiler_theorem.proofs.ends.states_of_sources_may_go_on.Goals as goal

pub returns : goal.returns
returns c = may_go_on
