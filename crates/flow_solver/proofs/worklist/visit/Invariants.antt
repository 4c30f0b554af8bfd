use Rattle.std.proofs.Common.{◌≤◌, [], drop}
use Rattle.flow_solver.specs.Steps.{IsUnderway, left_of}
use Rattle.flow_solver.proofs.worklist.visit.Given as goal

abbrev pub invariant-loop-edge : goal.invariant-loop-edge
invariant-loop-edge g l =
    IsUnderway (g.F.Flow.domain l.flow) l.graph.nodes l.graph.edges l.starts [] (drop l.edge-index l.row) l.state.facts l.state.waiting l.state.todo.items
    × (left_of (g.F.Flow.domain l.flow) l.state.facts l.state.todo.items ≤ left_of (g.F.Flow.domain l.flow) l.initial.state.facts l.initial.state.todo.items)
