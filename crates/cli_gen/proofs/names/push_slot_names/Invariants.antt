use Rattle.std.proofs.Common.{◌≡◌, ◌++◌, ◌∷◌, []}
use Rattle.std.specs.Prelude.{codes}
use Rattle.ir_model.specs.Names.{numbered}
use Rattle.cli_gen.specs.Pieces.{each}
use Rattle.cli_gen.proofs.names.push_slot_names.Given as goal

abbrev pub invariant-loop-j : goal.invariant-loop-j
invariant-loop-j l = l.all ≡ l.initial.all ++ each (λ j. numbered (codes "s") j ∷ []) l.j
