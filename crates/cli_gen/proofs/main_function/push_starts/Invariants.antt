use Rattle.std.proofs.Common.{◌≡◌, ◌++◌, ◌∷◌, []}
use Rattle.cli_gen.specs.Pieces.{each}
use Rattle.cli_gen.specs.Generated.{start_call}
use Rattle.cli_gen.proofs.main_function.push_starts.Given as goal

abbrev pub invariant-loop-k : goal.invariant-loop-k
invariant-loop-k l = l.all ≡ l.initial.all ++ each (λ k. start_call l.seed k ∷ []) l.k
