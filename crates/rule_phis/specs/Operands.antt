-- Operands as they are written.
use Rattle.std.specs.Prelude.{Bool, true, false, ℤ, pos, negsuc, ◌==◌}
use Rattle.ir_model.specs.Names.{same_name}
use Rattle.ir_model.specs.declared.operand.Operand.{Operand}

abbrev pub same_whole : ℤ → ℤ → Bool
same_whole (pos m) (pos n) = m == n
same_whole (negsuc m) (negsuc n) = m == n
same_whole m n = false

-- the same operand after reading numbers: `i8 255` and `i8 -1` are different, `true` and `1` too
abbrev pub same_operand : Operand → Operand → Bool
same_operand (Operand.Local m) (Operand.Local n) = m == n
same_operand (Operand.Global m) (Operand.Global n) = same_name m n
same_operand (Operand.Number m) (Operand.Number n) = same_whole m n
same_operand Operand.True Operand.True = true
same_operand Operand.False Operand.False = true
same_operand Operand.Null Operand.Null = true
same_operand Operand.None Operand.None = true
same_operand Operand.Poison Operand.Poison = true
same_operand x y = false
