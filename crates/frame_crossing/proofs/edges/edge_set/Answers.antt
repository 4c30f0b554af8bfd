use Rattle.frame_crossing.proofs.EdgeSets.{more_edges}
use Rattle.frame_crossing.proofs.edges.edge_set.Goals as goal

pub loop-edge-preserved : goal.loop-edge-preserved
loop-edge-preserved c = more_edges c.loop-edge.edge-index c.args.edges.now c.loop-edge.set.keys c.insert.new.self.keys c.loop-edge-test.true c.in_ok-insert.ensures.updates.0 c.loop-edge.invariant
