use Rattle.compiler_theorem.proofs.ends.Runs.{may_leave_edge}
use Rattle.compiler_theorem.proofs.ends.states_of_sources_may_leave_edges.Goals as goal

pub returns : goal.returns
returns c = may_leave_edge
