use Rattle.std.proofs.Common.{[], drop}
use Rattle.flow_solver.specs.Steps.{IsUnderway}
use Rattle.flow_solver.proofs.worklist.begin.Given as goal

abbrev pub invariant-loop-node : goal.invariant-loop-node
invariant-loop-node g l = IsUnderway (g.F.Flow.domain l.flow) l.graph.nodes l.graph.edges l.starts (drop l.node-index l.starts) [] l.state.facts l.state.waiting l.state.todo.items
