use Rattle.std.proofs.Common.{◌≡◌, ◌++◌, drop}
use Rattle.frame_slots.specs.Words.{uses_from}
use Rattle.frame_slots.proofs.edges.push_blocks.Given as goal

abbrev pub invariant-loop-block : goal.invariant-loop-block
invariant-loop-block l = l.uses ++ uses_from l.function l.at (drop l.block-index l.blocks) ≡ l.initial.uses ++ uses_from l.function 0 l.blocks
