use Rattle.flow_facts.proofs.Ends.{points-back}
use Rattle.flow_facts.proofs.behind.block_points.Goals as goal

pub loop-back-preserved : goal.loop-back-preserved
loop-back-preserved c = points-back c.args.block c.args.count c.loop-back.back c.loop-back.all c.push.new.self c.loop-back-test.true c.in_ok-push.ensures.ok c.loop-back.invariant
