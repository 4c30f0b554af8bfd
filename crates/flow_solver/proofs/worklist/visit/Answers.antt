use Rattle.std.proofs.Common.{ap, length, arith}
use Rattle.flow_solver.proofs.Moving.{edge_within, edge_known, target_inside, carried_fact, visit_step, read_target}
use Rattle.flow_solver.specs.Steps.{left_of}
use Rattle.flow_solver.proofs.worklist.visit.Goals as goal

pub target-to-requires : goal.target-to-requires
target-to-requires g c =
    let within = edge_within c.args.graph.now.edges c.args.node c.args.row.now c.loop-edge.edge-index c.requires.row c.loop-edge-test.true in
    let same = ap length c.as_slice.ensures in
    omega (arith, within, same)

pub transfer-requires-clause-known : goal.transfer-requires-clause-known
transfer-requires-clause-known g c = edge_known (g.F.Flow.domain c.args.flow.now) c.args.graph.now.edges c.args.node c.args.row.now c.loop-edge.edge-index c.requires.known c.requires.row c.loop-edge-test.true

pub transfer-requires-clause-fact : goal.transfer-requires-clause-fact
transfer-requires-clause-fact g c = c.loop-edge.invariant.0.are_facts c.args.node c.fact_at.result.now c.fact_at.ensures

pub raise-requires-clause-node : goal.raise-requires-clause-node
raise-requires-clause-node g c =
    let to_is = read_target c.args.graph.now.edges c.as_slice.result.now _ c.target-to.result c.as_slice.ensures c.target-to.ensures in
    let inside = target_inside c.args.graph.now.nodes c.args.graph.now.edges c.args.node c.args.row.now c.loop-edge.edge-index c.target-to.result c.requires.edges c.requires.row c.loop-edge-test.true to_is in
    let len = c.loop-edge.invariant.0.facts_length in
    omega (arith, inside, len)

pub raise-requires-clause-fact : goal.raise-requires-clause-fact
raise-requires-clause-fact g c =
    carried_fact (g.F.Flow.domain c.args.flow.now) c.args.graph.now.edges c.args.node c.args.row.now c.loop-edge.edge-index c.fact_at.result.now c.in_ok-carried.carried
    (g.met.F.Flow.laws c.args.flow.now) c.requires.known c.requires.row c.loop-edge-test.true
    (c.loop-edge.invariant.0.are_facts c.args.node c.fact_at.result.now c.fact_at.ensures) c.in_ok-carried.ensures

pub loop-edge-preserved : goal.loop-edge-preserved
loop-edge-preserved g c =
    let to_is = read_target c.args.graph.now.edges c.as_slice.result.now _ c.target-to.result c.as_slice.ensures c.target-to.ensures in
    visit_step (g.F.Flow.domain c.args.flow.now) c.args.graph.now.nodes c.args.graph.now.edges c.args.starts.now c.args.row.now c.loop-edge.edge-index c.args.node c.target-to.result c.fact_at.result.now c.in_ok-carried.carried
    c.loop-edge.state.facts c.raise.new.state.facts c.loop-edge.state.waiting c.raise.new.state.waiting c.loop-edge.state.todo.items c.raise.new.state.todo.items
    (left_of (g.F.Flow.domain c.args.flow.now) c.args.state.now.facts c.args.state.now.todo.items)
    (g.met.F.Flow.laws c.args.flow.now) c.requires.known c.requires.starts c.requires.row c.loop-edge-test.true
    to_is c.fact_at.ensures c.in_ok-carried.ensures c.loop-edge.invariant.0 c.loop-edge.invariant.1 c.in_ok-raise.ensures
