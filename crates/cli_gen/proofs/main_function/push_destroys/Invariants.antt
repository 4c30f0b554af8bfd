use Rattle.std.proofs.Common.{◌≡◌, ◌++◌, ◌∷◌, []}
use Rattle.ir_model.specs.declared.operand.Intrinsic.{Intrinsic}
use Rattle.cli_gen.specs.Pieces.{each}
use Rattle.cli_gen.specs.Generated.{handle_call}
use Rattle.cli_gen.proofs.main_function.push_destroys.Given as goal

abbrev pub invariant-loop-k : goal.invariant-loop-k
invariant-loop-k l = l.all ≡ l.initial.all ++ each (λ k. handle_call Intrinsic.CoroDestroy k ∷ []) l.k
