-- Lemmas on behind, that speak of no pass.
use Rattle.std.specs.Prelude.{List, [], ◌∷◌}
use Rattle.ir_parts.specs.Contents.{arg_operands, instr_operands}
use Rattle.ir_laws.specs.ir_model.declared.instr.Instr.{Instr}
use Rattle.ir_laws.specs.ir_model.declared.operand.Arg.{Arg}
use Rattle.ir_laws.specs.ir_model.declared.operand.Callee.{Callee}
use Rattle.ir_laws.specs.ir_model.declared.operand.Intrinsic.{Intrinsic}
use Rattle.ir_laws.specs.ir_model.declared.operand.Operand.{Operand}

-- ---- operands

-- the operands at which an instruction accesses memory
abbrev pub access_operands : Instr → List Operand
access_operands (Instr.Load r ty address align) = address ∷ []
access_operands (Instr.Store arg address align) = address ∷ []
access_operands (Instr.Call r must_tail ty (Callee.Intrinsic Intrinsic.MemcpyI64) args) = arg_operands args
access_operands (Instr.Call r must_tail ty (Callee.Intrinsic Intrinsic.MemcpyI32) args) = arg_operands args
access_operands _ = []

-- all but the second
abbrev pub besides_second : List Arg → List Operand
besides_second (a ∷ b ∷ args) = a.value ∷ arg_operands args
besides_second args = arg_operands args

-- the other operands, but for the slots of markers and the promise of coro.id
abbrev pub other_operands : Instr → List Operand
other_operands (Instr.Load r ty address align) = []
other_operands (Instr.Store arg address align) = arg.value ∷ []
other_operands (Instr.Call r must_tail ty (Callee.Intrinsic Intrinsic.MemcpyI64) args) = []
other_operands (Instr.Call r must_tail ty (Callee.Intrinsic Intrinsic.MemcpyI32) args) = []
other_operands (Instr.Call r must_tail ty (Callee.Intrinsic Intrinsic.LifetimeStart) args) = besides_second args
other_operands (Instr.Call r must_tail ty (Callee.Intrinsic Intrinsic.LifetimeEnd) args) = besides_second args
other_operands (Instr.Call r must_tail ty (Callee.Intrinsic Intrinsic.CoroId) args) = besides_second args
other_operands i = instr_operands i
