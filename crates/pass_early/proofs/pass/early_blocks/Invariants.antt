use Rattle.std.proofs.Common.{◌≡◌, ◌++◌, drop}
use Rattle.pass_early.specs.Early.{early_blocks, after_blocks}
use Rattle.pass_early.proofs.pass.early_blocks.Given as goal

abbrev pub invariant-loop-block : goal.invariant-loop-block
invariant-loop-block l = (l.all ++ early_blocks l.renaming l.save (drop l.block-index l.blocks) ≡ early_blocks l.renaming l.first l.blocks) × (after_blocks l.renaming l.save (drop l.block-index l.blocks) ≡ after_blocks l.renaming l.first l.blocks)
