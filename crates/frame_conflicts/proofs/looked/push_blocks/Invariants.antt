use Rattle.std.proofs.Common.{◌≡◌, ◌++◌, drop}
use Rattle.frame_conflicts.specs.Looked.{looked_blocks}
use Rattle.frame_conflicts.proofs.looked.push_blocks.Given as goal

abbrev pub invariant-loop-block : goal.invariant-loop-block
invariant-loop-block l = l.all ++ looked_blocks l.after l.end l.at (drop l.block-index l.blocks) ≡ l.initial.all ++ looked_blocks l.after l.end 0 l.blocks
