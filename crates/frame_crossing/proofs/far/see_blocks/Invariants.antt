use Rattle.std.proofs.Common.{◌≡◌, drop}
use Rattle.frame_crossing.specs.OneWalk.{blocks_far}
use Rattle.frame_crossing.proofs.far.see_blocks.Given as goal

abbrev pub invariant-loop-block : goal.invariant-loop-block
invariant-loop-block l = blocks_far l.mark l.made l.far (drop l.block-index l.blocks) ≡ blocks_far 1 l.initial.made l.initial.far l.blocks
