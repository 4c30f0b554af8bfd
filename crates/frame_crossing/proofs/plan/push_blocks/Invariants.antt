use Rattle.std.proofs.Common.{◌≡◌, ◌++◌, drop}
use Rattle.frame_crossing.specs.EdgeUses.{blocks_uses}
use Rattle.frame_crossing.proofs.plan.push_blocks.Given as goal

abbrev pub invariant-loop-block : goal.invariant-loop-block
invariant-loop-block l = l.uses ++ blocks_uses l.function l.at (drop l.block-index l.blocks) ≡ l.initial.uses ++ blocks_uses l.function 0 l.blocks
