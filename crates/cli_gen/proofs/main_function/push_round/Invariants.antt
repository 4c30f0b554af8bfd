use Rattle.std.proofs.Common.{◌≡◌, ◌+◌, ◌++◌, ◌∷◌, []}
use Rattle.std.specs.Prelude.{◌%◌}
use Rattle.ir_model.specs.declared.operand.Intrinsic.{Intrinsic}
use Rattle.cli_gen.specs.Pieces.{each}
use Rattle.cli_gen.specs.Generated.{handle_call}
use Rattle.cli_gen.proofs.main_function.push_round.Given as goal

abbrev pub invariant-loop-i : goal.invariant-loop-i
invariant-loop-i l = l.all ≡ l.initial.all ++ each (λ i. handle_call Intrinsic.CoroResume ((l.seed + (l.j + 1) + i) % l.coroutines) ∷ []) l.i
