-- Lemmas on switches, that speak of no pass.
use Rattle.std.proofs.Common.{◌≡◌, true, false, refl}
use Rattle.run_laws.specs.ir_model.declared.instr.Instr.{Instr}
use Rattle.run_laws.specs.ir_model.declared.operand.Callee.{Callee}
use Rattle.run_laws.specs.ir_model.declared.operand.Intrinsic.{Intrinsic}
use Rattle.run_laws.specs.ir_paths.Windows.{is_call_of}

pub suspend_no_end : (i : Instr) → is_call_of Intrinsic.CoroSuspend i ≡ true → is_call_of Intrinsic.CoroEnd i ≡ false
suspend_no_end (Instr.Call result must_tail ty (Callee.Intrinsic Intrinsic.CoroSuspend) args) e = refl
suspend_no_end _ e = absurd (cc)
