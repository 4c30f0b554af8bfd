use Rattle.std.proofs.Common.{◌≡◌, ◌++◌}
use Rattle.cli_gen.specs.Pieces.{each}
use Rattle.cli_gen.specs.Suspending.{blocks_of_suspend}
use Rattle.cli_gen.proofs.function.push_suspend_blocks.Given as goal

abbrev pub invariant-loop-j : goal.invariant-loop-j
invariant-loop-j l = l.all ≡ l.initial.all ++ each (blocks_of_suspend l.coroutine) l.j
