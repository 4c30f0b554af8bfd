-- Lemmas on regular, that speak of no pass.
use Rattle.std.specs.Prelude.{ℕ, Bool, false, Some, None, Option, ◌==◌}
use Rattle.run_laws.specs.ir_model.declared.instr.Instr.{Instr}

-- ---- what stands at a point

abbrev pub is_result : ℕ → Option ℕ → Bool
is_result n None = false
is_result n (Some k) = k == n

abbrev pub passes : (Instr → Bool) → Option Instr → Bool
passes test None = false
passes test (Some i) = test i
