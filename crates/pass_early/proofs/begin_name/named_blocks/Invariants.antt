use Rattle.std.proofs.Common.{◌≡◌, ◌++◌, drop, map}
use Rattle.pass_early.specs.BeginName.{named_block}
use Rattle.pass_early.proofs.begin_name.named_blocks.Given as goal

abbrev pub invariant-loop-block : goal.invariant-loop-block
invariant-loop-block l = l.all ++ map (named_block l.id) (drop l.block-index l.blocks) ≡ map (named_block l.id) l.blocks
