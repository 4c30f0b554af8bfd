-- Lemmas on begin, that speak of no pass.
use Rattle.std.proofs.Common.{◌≡◌, true, refl}
use Rattle.ir_parts.specs.Contents.{result_of}
use Rattle.ir_laws.specs.ir_model.declared.instr.Instr.{Instr}
use Rattle.ir_laws.specs.ir_model.declared.operand.Callee.{Callee}
use Rattle.ir_laws.specs.ir_model.declared.operand.Intrinsic.{Intrinsic}
use Rattle.ir_laws.specs.ir_paths.Windows.{call_result, is_call_of}

pub begin_result : (i : Instr) → is_call_of Intrinsic.CoroBegin i ≡ true → result_of i ≡ call_result i
begin_result (Instr.Call result must_tail ty (Callee.Intrinsic Intrinsic.CoroBegin) args) e = refl
begin_result _ e = absurd (cc)
