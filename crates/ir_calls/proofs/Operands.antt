-- Operands by their positions.
use Rattle.std.proofs.Common.{◌≡◌, ℕ, zero, suc, List, [], ◌∷◌, refl}
use Rattle.std.specs.Prelude.{Option, Some, None, slice_get}
use Rattle.ir_paths.specs.ir_model.declared.operand.Arg.{Arg}
use Rattle.ir_paths.specs.ir_model.declared.operand.Operand.{Operand}
use Rattle.ir_paths.specs.Windows.{operand_at}

abbrev pub value_or_none : Option Arg → Operand
value_or_none None = Operand.None
value_or_none (Some a) = a.value

pub operand_at_is : (args : List Arg) (at : ℕ) → operand_at args at ≡ value_or_none (slice_get args at)
operand_at_is [] at = refl
operand_at_is (a ∷ args) zero = refl
operand_at_is (a ∷ args) (suc at) = operand_at_is args at
