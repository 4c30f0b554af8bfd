use Rattle.std.proofs.Common.{◌≡◌, ◌∷◌, []}
use Rattle.cli_gen.specs.Pieces.{each}
use Rattle.cli_gen.specs.Suspending.{coroutine_function}
use Rattle.cli_gen.proofs.generated.coroutine_functions.Given as goal

abbrev pub invariant-loop-number : goal.invariant-loop-number
invariant-loop-number l = l.all ≡ each (λ k. coroutine_function (record { number = k; suspends = l.suspends }) ∷ []) l.number
