use Rattle.std.proofs.Common.{arith}
use Rattle.run_step.proofs.LabelPositions.{found-at, found-nowhere}
use Rattle.run_step.proofs.labels.search.Goals as goal

pub returns-then-blocks-at : goal.returns-then-blocks-at
returns-then-blocks-at c = found-at c.args.label c.args.blocks.now c.loop-at.at c.index-blocks-at.result c.loop-at-test.true c.index-blocks-at.is c.if-blocks-at.true c.loop-at.invariant

pub returns : goal.returns
returns c = found-nowhere c.args.label c.args.blocks.now c.loop-at.at (omega arith) c.loop-at.invariant
