-- The calls of a coroutine's intrinsics.
use Rattle.std.specs.Prelude.{ℕ, Bool, true, false, List, [], find, Some, None, Option, option_and_then, pos, negsuc, ◌∷◌, ◌==◌}
use Rattle.ir_paths.specs.ir_model.Names.{is_local}
use Rattle.ir_paths.specs.ir_model.declared.instr.Instr.{Instr}
use Rattle.ir_paths.specs.ir_model.declared.module.Block.{Block}
use Rattle.ir_paths.specs.ir_model.declared.module.Function.{Function}
use Rattle.ir_paths.specs.ir_model.declared.operand.Arg.{Arg}
use Rattle.ir_paths.specs.ir_model.declared.operand.Intrinsic.{Intrinsic}
use Rattle.ir_paths.specs.ir_model.declared.operand.Operand.{Operand}
use Rattle.ir_paths.specs.Windows.{call_operand, call_result, is_call_of, operand_at}

abbrev pub or_instr : Option Instr → Option Instr → Option Instr
or_instr (Some i) other = Some i
or_instr None other = other

abbrev pub first_call_in : Intrinsic → List Instr → Option Instr
first_call_in i is = find (is_call_of i) is

abbrev pub first_call_by : Intrinsic → List Block → Option Instr
first_call_by i [] = None
first_call_by i (b ∷ bs) = or_instr (first_call_in i b.instrs) (first_call_by i bs)

-- the first call of an intrinsic in order of the text
abbrev pub first_call : Intrinsic → Function → Option Instr
first_call i f = first_call_by i f.blocks

-- its result, where it has one
abbrev pub value_of_first : Intrinsic → Function → Option ℕ
value_of_first i f = option_and_then call_result (first_call i f)

-- ---- operands

-- the operand is this value
abbrev pub is_value : Option ℕ → Operand → Bool
is_value None x = false
is_value (Some v) x = is_local v x

abbrev pub is_null : Operand → Bool
is_null Operand.Null = true
is_null _ = false

-- the constant true of type i1, whose literals may also be 1 and -1
abbrev pub is_true : Operand → Bool
is_true Operand.True = true
is_true (Operand.Number (pos n)) = n == 1
is_true (Operand.Number (negsuc n)) = n == 0
is_true _ = false

abbrev pub is_second_true : List Arg → Bool
is_second_true args = is_true (operand_at args 1)

-- the second operand of a call is true: of a suspend, it is final
abbrev pub is_final : Instr → Bool
is_final i = is_true (call_operand i 1)
