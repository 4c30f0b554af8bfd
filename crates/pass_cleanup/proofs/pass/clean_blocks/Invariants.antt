use Rattle.std.proofs.Common.{◌≡◌, ◌++◌, drop, map}
use Rattle.pass_cleanup.specs.Cleanup.{clean_block}
use Rattle.pass_cleanup.proofs.pass.clean_blocks.Given as goal

abbrev pub invariant-loop-block : goal.invariant-loop-block
invariant-loop-block l = l.all ++ map clean_block (drop l.block-index l.blocks) ≡ map clean_block l.blocks
