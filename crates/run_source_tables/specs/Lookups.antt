-- What the machine looks up.
use Rattle.std.specs.Prelude.{ℕ, Bool, true, false, List, [], Some, None, Option, ◌&&◌, ◌∷◌, slice_get}
use Rattle.ir_model.specs.Names.{is_local}
use Rattle.ir_model.specs.declared.instr.Instr.{Instr}
use Rattle.ir_model.specs.declared.operand.Arg.{Arg}
use Rattle.ir_model.specs.declared.operand.Intrinsic.{Intrinsic}
use Rattle.ir_model.specs.declared.operand.Operand.{Operand}
use Rattle.ir_paths.specs.Windows.{call_operand, is_call_of, is_suspend_of, operand_at}
use Rattle.run_source_tables.specs.Given.{is_true}
use Rattle.run_source_tables.specs.declared.shape.Sought.{Sought}

-- an instruction is what is sought
abbrev pub sought : Sought → Instr → Bool
sought (Sought.Call intrinsic) i = is_call_of intrinsic i
sought (Sought.SuspendOf token) i = is_suspend_of (Some token) i

-- a call of coro.suspend whose second operand is true
abbrev pub is_final_suspend : Instr → Bool
is_final_suspend i = is_call_of Intrinsic.CoroSuspend i && is_true (call_operand i 1)

abbrev pub is_none_operand : Operand → Bool
is_none_operand Operand.None = true
is_none_operand _ = false

abbrev pub is_local_at : ℕ → List Arg → ℕ → Bool
is_local_at name args i = is_local name (operand_at args i)

abbrev pub not_empty : {A : Type 0} → List A → Bool
not_empty [] = false
not_empty (x ∷ xs) = true

-- the arguments of a call
abbrev pub args_of : Instr → List Arg
args_of (Instr.Call result must_tail ty callee args) = args
args_of _ = []
