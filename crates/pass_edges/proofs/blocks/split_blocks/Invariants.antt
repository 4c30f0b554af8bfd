use Rattle.std.proofs.Common.{◌≡◌, ◌++◌, drop}
use Rattle.pass_edges.specs.EdgeBlocks.{split_blocks}
use Rattle.pass_edges.proofs.blocks.split_blocks.Given as goal

abbrev pub invariant-loop-block : goal.invariant-loop-block
invariant-loop-block l = l.all ++ split_blocks l.flags l.table.items l.next (drop l.block-index l.blocks) ≡ split_blocks l.flags l.table.items l.first l.blocks
