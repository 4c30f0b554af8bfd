use Rattle.std.proofs.Common.{◌≡◌, ◌++◌, drop}
use Rattle.pass_exits.specs.ExitBlocks.{exit_blocks}
use Rattle.pass_exits.proofs.blocks.push_exit_blocks.Given as goal

abbrev pub invariant-loop-exit : goal.invariant-loop-exit
invariant-loop-exit l = l.all ++ exit_blocks l.label (drop l.exit-index l.exits) ≡ l.initial.all ++ exit_blocks l.first l.exits
