use Rattle.std.proofs.Common.{◌≡◌, ◌∷◌, []}
use Rattle.cli_gen.specs.Pieces.{each}
use Rattle.cli_gen.specs.Suspending.{slot_alloca}
use Rattle.cli_gen.proofs.entry.slot_allocas.Given as goal

abbrev pub invariant-loop-j : goal.invariant-loop-j
invariant-loop-j l = l.all ≡ each (λ j. slot_alloca j ∷ []) l.j
