use Rattle.std.proofs.Common.{◌≡◌, ◌+◌, ◌++◌}
use Rattle.cli_gen.specs.Pieces.{each}
use Rattle.cli_gen.specs.Generated.{round}
use Rattle.cli_gen.proofs.main_function.push_resumes.Given as goal

abbrev pub invariant-loop-j : goal.invariant-loop-j
invariant-loop-j l = l.all ≡ l.initial.all ++ each (λ j. round l.seed l.coroutines (j + 1)) l.j
