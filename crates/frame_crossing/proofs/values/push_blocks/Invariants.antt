use Rattle.std.proofs.Common.{◌≡◌, ◌++◌, drop}
use Rattle.frame_crossing.specs.Values.{blocks_defined}
use Rattle.frame_crossing.proofs.values.push_blocks.Given as goal

abbrev pub invariant-loop-block : goal.invariant-loop-block
invariant-loop-block l = l.all.items ++ blocks_defined (drop l.block-index l.blocks) ≡ l.initial.all.items ++ blocks_defined l.blocks
