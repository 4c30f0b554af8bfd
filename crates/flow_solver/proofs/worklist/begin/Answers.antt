use Rattle.flow_solver.proofs.Moving.{begins, start_step}
use Rattle.flow_solver.proofs.worklist.begin.Goals as goal

pub loop-node-init : goal.loop-node-init
loop-node-init g c = begins _ _ _ _ _ _ _ (g.met.F.Flow.laws c.args.flow.now) c.requires.known c.in_ok-state.ensures.facts c.in_ok-state.ensures.waiting c.in_ok-state.ensures.todo

pub loop-node-preserved : goal.loop-node-preserved
loop-node-preserved g c = start_step _ _ _ _ c.loop-node.node-index c.loop-node-item.result _ _ _ _ _ _ (g.met.F.Flow.laws c.args.flow.now) c.requires.starts c.loop-node-test.true c.loop-node-item.is c.loop-node.invariant c.in_ok-raise.ensures
