use Rattle.std.proofs.Common.{◌≡◌, map, take}
use Rattle.flow_blocks.proofs.reaching.asked.Given as goal

abbrev pub invariant-loop-block : goal.invariant-loop-block
invariant-loop-block l = l.starts.items ≡ map (λ b. (b, 1)) (take l.block-index l.blocks)
