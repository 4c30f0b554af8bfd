use Rattle.std.proofs.Common.{[]}
use Rattle.flow_solver.specs.Steps.{IsUnderway, left_of}
use Rattle.flow_solver.proofs.worklist.settle.Given as goal

abbrev pub invariant-loop-node : goal.invariant-loop-node
invariant-loop-node g l =
    IsUnderway (g.F.Flow.domain l.flow) l.graph.nodes l.graph.edges l.starts [] [] l.state.facts l.state.waiting l.state.todo.items

abbrev pub decreases-loop-node : goal.decreases-loop-node
decreases-loop-node g l = left_of (g.F.Flow.domain l.flow) l.state.facts l.state.todo.items
