-- Lemmas on fetched.
use Rattle.std.proofs.Common.{◌≡◌, true, refl}
use Rattle.pass_edges.specs.Edges.{is_suspend as suspends}
use Rattle.pass_early_proof.proofs.ir_laws.paths.shape.Steady.{is_suspend}
use Rattle.ir_model.specs.declared.instr.Instr.{Instr}
use Rattle.ir_model.specs.declared.operand.Callee.{Callee}
use Rattle.ir_model.specs.declared.operand.Intrinsic.{Intrinsic}

pub call_suspends : (i : Instr) → is_suspend i ≡ true → suspends i ≡ true
call_suspends (Instr.Call result must_tail ty (Callee.Intrinsic Intrinsic.CoroSuspend) args) e = refl
call_suspends _ e = absurd (cc)
