use Rattle.std.proofs.Common.{◌≡◌, ◌++◌, drop, length}
use Rattle.pass_exits.specs.ExitBlocks.{blocks_by}
use Rattle.pass_exits.proofs.blocks.exit_blocks_of.Given as goal

abbrev pub invariant-loop-at : goal.invariant-loop-at
invariant-loop-at l = l.all ++ blocks_by l.function l.at l.next (drop l.at l.function.blocks) ≡ blocks_by l.function 0 (length l.function.names) l.function.blocks
