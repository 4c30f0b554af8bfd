use Rattle.std.proofs.Common.{◌≡◌, ◌++◌, ◌∷◌, []}
use Rattle.std.specs.Prelude.{codes}
use Rattle.ir_model.specs.Names.{numbered}
use Rattle.cli_gen.specs.Pieces.{each}
use Rattle.cli_gen.proofs.main_function.push_handle_names.Given as goal

abbrev pub invariant-loop-k : goal.invariant-loop-k
invariant-loop-k l = l.all ≡ l.initial.all ++ each (λ k. numbered (codes "h") k ∷ []) l.k
