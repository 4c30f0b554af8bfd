-- The results of a function's calls of an intrinsic.
use Rattle.std.specs.Prelude.{ℕ, List, [], Some, None, Option, ◌∷◌, if◌then◌else◌}
use Rattle.ir_model.specs.Names.{same_intrinsic}
use Rattle.ir_model.specs.declared.instr.Instr.{Instr}
use Rattle.ir_model.specs.declared.module.Block.{Block}
use Rattle.ir_model.specs.declared.module.Function.{Function}
use Rattle.ir_model.specs.declared.operand.Callee.{Callee}
use Rattle.ir_model.specs.declared.operand.Intrinsic.{Intrinsic}

-- the result of a call of the intrinsic
abbrev pub result_of_call : Intrinsic → Instr → Option ℕ
result_of_call i (Instr.Call result must_tail ty (Callee.Intrinsic j) args) = if same_intrinsic i j then result else None
result_of_call i _ = None

abbrev pub or_else : Option ℕ → Option ℕ → Option ℕ
or_else (Some n) other = Some n
or_else None other = other

abbrev pub first_result_in : Intrinsic → List Instr → Option ℕ
first_result_in i [] = None
first_result_in i (x ∷ xs) = or_else (result_of_call i x) (first_result_in i xs)

abbrev pub first_result_by : Intrinsic → List Block → Option ℕ
first_result_by i [] = None
first_result_by i (b ∷ bs) = or_else (first_result_in i b.instrs) (first_result_by i bs)

-- the result of the first call of the intrinsic that has one
abbrev pub first_result : Intrinsic → Function → Option ℕ
first_result i f = first_result_by i f.blocks
