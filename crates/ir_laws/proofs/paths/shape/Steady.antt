-- Lemmas on steady, that speak of no pass.
use Rattle.std.proofs.Common.{◌≡◌, ℕ, ◌+◌, Bool, true, List, [], ◌∷◌}
use Rattle.std.specs.Prelude.{Some}
use Rattle.run_laws.specs.ir_model.declared.instr.Instr.{Instr}
use Rattle.run_laws.specs.ir_model.declared.operand.Intrinsic.{Intrinsic}
use Rattle.run_laws.specs.ir_paths.Windows.{call_result, is_call_of}

abbrev pub is_end : Instr → Bool
is_end i = is_call_of Intrinsic.CoroEnd i

abbrev pub is_suspend : Instr → Bool
is_suspend i = is_call_of Intrinsic.CoroSuspend i

-- ---- how these calls stand

-- an end is the first of its block, and a suspend the last, whose result is one of these values
pub record IsOrdered (V : ℕ → Type 0) (at : ℕ) (i : Instr) (is : List Instr) : Type 0 where
  pub leads : is_end i ≡ true → at ≡ 0
  pub last : is_suspend i ≡ true → is ≡ []
  pub value : (v : ℕ) → is_suspend i ≡ true → call_result i ≡ Some v → V v

abbrev pub AreOrdered : (ℕ → Type 0) → ℕ → List Instr → Type 0
AreOrdered V at [] = Unit {0}
AreOrdered V at (i ∷ is) = IsOrdered V at i is × AreOrdered V (at + 1) is
