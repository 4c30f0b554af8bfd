-- Lemmas on kept, that speak of no pass.
use Rattle.std.proofs.Common.{◌≡◌, true, false, refl}
use Rattle.run_source.specs.Source.{begin}
use Rattle.run_laws.specs.ir_model.declared.instr.Instr.{Instr}
use Rattle.run_laws.specs.ir_model.declared.operand.Callee.{Callee}
use Rattle.run_laws.specs.ir_model.declared.operand.Intrinsic.{Intrinsic}
use Rattle.run_laws.specs.ir_paths.Windows.{is_call_of}

-- ---- calls of coro.frame and coro.begin

pub frame_no_begin : (i : Instr) → is_call_of Intrinsic.CoroFrame i ≡ true → is_call_of Intrinsic.CoroBegin i ≡ false
frame_no_begin (Instr.Call result must_tail ty (Callee.Intrinsic Intrinsic.CoroFrame) args) e = refl
frame_no_begin _ e = absurd (cc)
