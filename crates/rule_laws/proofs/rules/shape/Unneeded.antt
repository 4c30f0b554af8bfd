-- Lemmas on unneeded, that speak of no pass.
use Rattle.std.proofs.Common.{◌≡◌, true, refl}
use Rattle.ir_laws.proofs.paths.shape.Steady.{is_suspend}
use Rattle.ir_parts.specs.Contents.{result_of}
use Rattle.ir_laws.specs.ir_model.declared.instr.Instr.{Instr}
use Rattle.ir_laws.specs.ir_model.declared.operand.Callee.{Callee}
use Rattle.ir_laws.specs.ir_model.declared.operand.Intrinsic.{Intrinsic}
use Rattle.ir_laws.specs.ir_paths.Windows.{call_result}

pub suspend_result : (i : Instr) → is_suspend i ≡ true → result_of i ≡ call_result i
suspend_result (Instr.Call result must_tail ty (Callee.Intrinsic Intrinsic.CoroSuspend) args) e = refl
suspend_result _ e = absurd (cc)
