use Rattle.std.proofs.Common.{◌≡◌, ◌++◌, drop}
use Rattle.pass_cells.specs.Written.{after_blocks, written_blocks}
use Rattle.pass_cells.proofs.written.push_written_blocks.Given as goal

abbrev pub invariant-loop-block : goal.invariant-loop-block
invariant-loop-block l = (l.all ++ written_blocks l.types.sizes.now.names.now.source.now l.plan l.next (drop l.block-index l.blocks) ≡ l.initial.all ++ written_blocks l.types.sizes.now.names.now.source.now l.plan l.first l.blocks) × (after_blocks l.types.sizes.now.names.now.source.now l.plan l.next (drop l.block-index l.blocks) ≡ after_blocks l.types.sizes.now.names.now.source.now l.plan l.first l.blocks)
