-- Lemmas on turned, that speak of no pass.
use Rattle.std.proofs.Common.{◌≡◌, Bool, true}
use Rattle.std.specs.Prelude.{not}
use Rattle.ir_laws.specs.ir_model.declared.instr.Instr.{Instr}
use Rattle.ir_laws.specs.ir_model.declared.operand.Callee.{Callee}
use Rattle.ir_laws.specs.ir_model.declared.operand.Intrinsic.{Intrinsic}
use Rattle.rule_locals.specs.Intrinsics.{is_inner}
use Rattle.ir_laws.proofs.facts.Truth.{is_void}

-- ---- instructions

-- no call of an inner intrinsic
abbrev pub is_outer : Instr → Bool
is_outer (Instr.Call r must_tail ty (Callee.Intrinsic x) args) = not (is_inner x)
is_outer i = true

-- so it is of an instruction
abbrev pub IsOuter : Instr → Type 0
IsOuter i = (is_outer i ≡ true) × (is_void i ≡ true)
