use Rattle.std.proofs.Common.{ap, length, arith}
use Rattle.flow_blocks.proofs.Bounds.{all_there}
use Rattle.flow_blocks.proofs.edges.all_edges.Goals as goal

pub returns : goal.returns
returns c =
    let len = ap length c.as_slice-block-items.ensures in
    all_there c.args.function.now c.loop-at.at c.loop-at.edges (omega (arith, len)) c.loop-at.invariant
