-- Small pieces of the generated module.
use Rattle.std.specs.Prelude.{ℕ, zero, suc, false, List, [], ℤ, pos, Some, None, Option, ◌∷◌, ◌++◌}
use Rattle.ir_base.specs.declared.name.Name.{Name}
use Rattle.ir_model.specs.Ty.{Ty, int, ptr, token}
use Rattle.ir_model.specs.declared.instr.Instr.{Instr}
use Rattle.ir_model.specs.declared.instr.Phi.{Phi}
use Rattle.ir_model.specs.declared.instr.Terminator.{Terminator}
use Rattle.ir_model.specs.declared.module.Block.{Block}
use Rattle.ir_model.specs.declared.operand.Arg.{Arg}
use Rattle.ir_model.specs.declared.operand.Callee.{Callee}
use Rattle.ir_model.specs.declared.operand.Intrinsic.{Intrinsic}
use Rattle.ir_model.specs.declared.operand.Operand.{Operand}

-- what each number below n gives, in order
abbrev pub each : {A : Type 0} → (ℕ → List A) → ℕ → List A
each given zero = []
each given (suc n) = each given n ++ given n

abbrev pub number_arg : ℕ → ℕ → Arg
number_arg w n = record { ty = int w; value = Operand.Number (pos n) }

abbrev pub pointer_arg : Operand → Arg
pointer_arg x = record { ty = ptr; value = x }

abbrev pub token_arg : Operand → Arg
token_arg x = record { ty = token; value = x }

abbrev pub flag_arg : Operand → Arg
flag_arg x = record { ty = int 1; value = x }

abbrev pub call : Option ℕ → Option Ty → Callee → List Arg → Instr
call r ty callee args = Instr.Call r false ty callee args

abbrev pub intrinsic_call : Option ℕ → Option Ty → Intrinsic → List Arg → Instr
intrinsic_call r ty i args = call r ty (Callee.Intrinsic i) args

abbrev pub block_of : ℕ → List Instr → Terminator → Block
block_of label instrs term = record { label = label; phis = []; instrs = instrs; term = term }
