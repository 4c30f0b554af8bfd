use Rattle.std.proofs.Common.{◌≡◌, ◌++◌, drop, get_or, false}
use Rattle.frame_contents.specs.Held.{held_blocks}
use Rattle.frame_contents.proofs.held.push_blocks.Given as goal

abbrev pub invariant-loop-block : goal.invariant-loop-block
invariant-loop-block l = l.all ++ held_blocks l.sizes.names.now.source.now l.promise (λ v. get_or l.values v false) (λ v. get_or l.slots v false) (drop l.block-index l.blocks) ≡ l.initial.all ++ held_blocks l.sizes.names.now.source.now l.promise (λ v. get_or l.values v false) (λ v. get_or l.slots v false) l.blocks
