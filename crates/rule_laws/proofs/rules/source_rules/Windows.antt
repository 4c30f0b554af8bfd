-- Lemmas on windows, that speak of no pass.
use Rattle.std.proofs.Common.{◌≡◌, true, refl}
use Rattle.ir_laws.specs.ir_model.declared.instr.Instr.{Instr}
use Rattle.ir_laws.specs.ir_model.declared.operand.Callee.{Callee}
use Rattle.ir_laws.specs.ir_model.declared.operand.Intrinsic.{Intrinsic}
use Rattle.ir_laws.specs.ir_paths.Windows.{is_call_of}
use Rattle.rule_windows.specs.Windows.{Call, ends_window}

pub end_ends : (i : Instr) → is_call_of Intrinsic.CoroEnd i ≡ true → ends_window i ≡ true
end_ends (Instr.Call result must_tail ty (Callee.Intrinsic Intrinsic.CoroEnd) args) e = refl
end_ends _ e = absurd (cc)
