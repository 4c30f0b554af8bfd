-- What may be put in around an instruction, by the numbers of kept values and of slots that are used before begin.
use Rattle.std.specs.Prelude.{ℕ, ◌+◌, ◌*◌, length}
use Rattle.pass_frames_proof.specs.ir_model.declared.instr.Instr.{Instr}
use Rattle.pass_frames_proof.specs.ir_model.declared.operand.Callee.{Callee}
use Rattle.pass_frames_proof.specs.ir_model.declared.operand.Intrinsic.{Intrinsic}

-- behind it, besides the store of its result: the sum of a distance, and copies at begin
abbrev pub behind_by : (early : ℕ) → Instr → ℕ
behind_by early (Instr.Gep r inbounds ty base indices) = 3 * length indices + 2
behind_by early (Instr.Call r must_tail ty (Callee.Intrinsic Intrinsic.CoroBegin) args) = 4 * early
behind_by early i = 0

-- in all, besides that store and a load or an address for each operand: also what a save moves to fields, and of an
-- access two more for each operand, since it may stand before begin
abbrev pub more_by : (kept early : ℕ) → Instr → ℕ
more_by kept early (Instr.Gep r inbounds ty base indices) = 3 * length indices + 2
more_by kept early (Instr.Load r ty address align) = 2
more_by kept early (Instr.Store arg address align) = 4
more_by kept early (Instr.Call r must_tail ty (Callee.Intrinsic Intrinsic.CoroBegin) args) = 4 * early
more_by kept early (Instr.Call r must_tail ty (Callee.Intrinsic Intrinsic.CoroSave) args) = 3 * kept
more_by kept early (Instr.Call r must_tail ty (Callee.Intrinsic Intrinsic.MemcpyI64) args) = 2 * length args
more_by kept early (Instr.Call r must_tail ty (Callee.Intrinsic Intrinsic.MemcpyI32) args) = 2 * length args
more_by kept early i = 0
