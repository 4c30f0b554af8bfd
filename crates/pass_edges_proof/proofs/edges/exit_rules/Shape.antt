-- Lemmas on shape.
use Rattle.std.proofs.Common.{◌≡◌, ◌-◌, true, refl}
use Rattle.pass_edges.specs.Edges.{is_suspend}
use Rattle.ir_model.specs.declared.instr.Instr.{Instr}
use Rattle.ir_model.specs.declared.operand.Callee.{Callee}
use Rattle.ir_model.specs.declared.operand.Intrinsic.{Intrinsic}
use Rattle.pass_early_proof.specs.ir_paths.Windows.{is_call_of}

-- ---- the calls

pub suspend_is : (i : Instr) → is_call_of Intrinsic.CoroSuspend i ≡ true → is_suspend i ≡ true
suspend_is (Instr.Call result must_tail ty (Callee.Intrinsic Intrinsic.CoroSuspend) args) e = refl
suspend_is _ e = absurd (cc)
