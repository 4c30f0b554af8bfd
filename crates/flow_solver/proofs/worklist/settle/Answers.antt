use Rattle.std.proofs.Common.{arith}
use Rattle.flow_solver.proofs.Moving.{front_inside, front_taken}
use Rattle.flow_solver.proofs.worklist.settle.Goals as goal

pub row_of-requires : goal.row_of-requires
row_of-requires g c =
    let inside = front_inside c.loop-node.state.todo.items c.in-Some.node c.pop_front.new.self.items c.loop-node.invariant c.in-Some.ensures.items in
    let len = c.requires.rows.rows_length in
    omega (arith, inside, len)

pub visit-requires-clause-node : goal.visit-requires-clause-node
visit-requires-clause-node g c = front_inside c.loop-node.state.todo.items c.in-Some.node c.pop_front.new.self.items c.loop-node.invariant c.in-Some.ensures.items

pub visit-requires-clause-row : goal.visit-requires-clause-row
visit-requires-clause-row g c = λ e h. c.requires.rows.leaves e c.in-Some.node c.row_of.result.now c.row_of.ensures h

pub visit-requires-clause-underway : goal.visit-requires-clause-underway
visit-requires-clause-underway g c =
    front_taken (g.F.Flow.domain c.args.flow.now) c.args.graph.now.nodes c.args.graph.now.edges c.args.starts.now _ c.row_of.result.now c.in-Some.node
    c.loop-node.state.facts c.loop-node.state.waiting c.set.new.self c.loop-node.state.todo.items c.pop_front.new.self.items
    c.requires.rows c.row_of.ensures c.in-Some.ensures.items c.set.ensures c.loop-node.invariant
