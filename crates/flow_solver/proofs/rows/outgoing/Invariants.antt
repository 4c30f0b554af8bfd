use Rattle.flow_solver.proofs.Filing.{AreFiled}
use Rattle.flow_solver.proofs.rows.outgoing.Given as goal

abbrev pub invariant-loop-edge : goal.invariant-loop-edge
invariant-loop-edge l = AreFiled l.nodes l.edges l.edge l.rows.items
