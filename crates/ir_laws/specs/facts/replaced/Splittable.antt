-- Lemmas on splittable, that speak of no pass.
use Rattle.std.specs.Prelude.{Bool, true, false}
use Rattle.run_laws.specs.ir_model.declared.instr.Instr.{Instr}
use Rattle.run_laws.specs.ir_model.declared.operand.Callee.{Callee}
use Rattle.run_laws.specs.ir_model.declared.operand.Intrinsic.{Intrinsic}

-- ---- begin

-- a save, a suspend, a free, a frame and the end ask for begin
abbrev pub is_behind_begin : Intrinsic → Bool
is_behind_begin Intrinsic.CoroSave = true
is_behind_begin Intrinsic.CoroSuspend = true
is_behind_begin Intrinsic.CoroFree = true
is_behind_begin Intrinsic.CoroFrame = true
is_behind_begin Intrinsic.CoroEnd = true
is_behind_begin _ = false

abbrev pub asks_begin : Instr → Bool
asks_begin (Instr.Call r must_tail ty (Callee.Intrinsic x) args) = is_behind_begin x
asks_begin i = false
