use Rattle.std.proofs.Common.{◌≡◌, ◌+◌, ◌++◌, drop, length}
use Rattle.pass_elide.specs.Elided.{blocks_frames, elided_blocks}
use Rattle.pass_elide.proofs.elided.elided_blocks.Given as goal

abbrev pub invariant-loop-block : goal.invariant-loop-block
invariant-loop-block g l =
    (l.all ++ elided_blocks (g.R.GivenFrames.found l.finder) l.at (length l.frames + l.base) (drop l.block-index l.blocks) ≡ elided_blocks (g.R.GivenFrames.found l.finder) 0 (length l.initial.frames + l.base) l.blocks)
    × (l.frames ++ blocks_frames (g.R.GivenFrames.found l.finder) l.at (drop l.block-index l.blocks) ≡ l.initial.frames ++ blocks_frames (g.R.GivenFrames.found l.finder) 0 l.blocks)
