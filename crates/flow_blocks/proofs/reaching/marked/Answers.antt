use Rattle.flow_blocks.proofs.Telling.{more_marked}
use Rattle.flow_blocks.proofs.reaching.marked.Goals as goal

pub loop-block-preserved : goal.loop-block-preserved
loop-block-preserved c = more_marked c.args.nodes c.loop-block.block-index c.args.blocks.now c.loop-block.marks c.set.new.self c.loop-block-test.true c.set.ensures c.loop-block.invariant
