use Rattle.std.proofs.Common.{◌≡◌, ◌+◌, drop}
use Rattle.frame_bounds.specs.Bounds.{blocks_bound}
use Rattle.frame_bounds.proofs.bounds.plus_blocks.Given as goal

abbrev pub invariant-loop-block : goal.invariant-loop-block
invariant-loop-block l = l.sum + blocks_bound l.sizes.names.now.source.now (drop l.block-index l.blocks) ≡ l.initial.sum + blocks_bound l.sizes.names.now.source.now l.blocks
