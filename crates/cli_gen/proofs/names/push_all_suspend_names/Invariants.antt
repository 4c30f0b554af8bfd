use Rattle.std.proofs.Common.{◌≡◌, ◌++◌}
use Rattle.cli_gen.specs.Pieces.{each}
use Rattle.cli_gen.specs.Suspending.{suspend_names}
use Rattle.cli_gen.proofs.names.push_all_suspend_names.Given as goal

abbrev pub invariant-loop-j : goal.invariant-loop-j
invariant-loop-j l = l.all ≡ l.initial.all ++ each (suspend_names l.coroutine) l.j
