-- Lemmas on makers, that speak of no pass.
use Rattle.std.proofs.Common.{◌≡◌, ℕ, true}
use Rattle.std.specs.Prelude.{Some}
use Rattle.run_laws.specs.ir_model.declared.instr.Instr.{Instr}
use Rattle.run_laws.specs.ir_model.declared.module.Function.{Function}
use Rattle.run_laws.specs.ir_model.declared.operand.Intrinsic.{Intrinsic}
use Rattle.run_laws.specs.ir_paths.Windows.{instr_at, is_call_of}
use Rattle.run_laws.specs.ir_paths.declared.point.Point.{Point}
use Rattle.run_laws.specs.changed.Changed.{result_of}

-- an instruction of a function that makes the value
pub record HasFrame (f : Function) (n : ℕ) : Type 0 where
  pub point : Point
  pub instr : Instr
  pub stands : instr_at f point ≡ Some instr
  pub is_call : is_call_of Intrinsic.CoroFrame instr ≡ true
  pub result : result_of instr ≡ Some n
