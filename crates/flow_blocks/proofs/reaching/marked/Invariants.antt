use Rattle.std.proofs.Common.{take}
use Rattle.flow_blocks.specs.Words.{AreMarked}
use Rattle.flow_blocks.proofs.reaching.marked.Given as goal

abbrev pub invariant-loop-block : goal.invariant-loop-block
invariant-loop-block l = AreMarked l.nodes (take l.block-index l.blocks) l.marks
