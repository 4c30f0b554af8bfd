use Rattle.std.proofs.Common.{◌≡◌, map, take}
use Rattle.elide_sites.proofs.destroyed.asked.Given as goal

abbrev pub invariant-loop-block : goal.invariant-loop-block
invariant-loop-block l = l.starts ≡ map (λ b. (b, 1)) (take l.block-index l.blocks)
