-- Lemmas on part values, that speak of no pass.
use Rattle.std.proofs.Common.{ℕ, Bool, true, false}
use Rattle.std.specs.Prelude.{Option, not, ◌&&◌}
use Rattle.ir_laws.specs.ir_base.declared.outcome.Place.{Place}
use Rattle.ir_parts.specs.Parts.{Ending, Part as FunctionPart}
use Rattle.ir_laws.specs.ir_model.Ty.{Ty}
use Rattle.ir_laws.specs.ir_model.declared.instr.Terminator.{Terminator}
use Rattle.ir_laws.specs.ir_model.declared.module.Module.{Module}
use Rattle.rule_values.specs.Values.{breaks_values}
use Rattle.rule_values.specs.declared.kinds.Kind.{Kind}

-- ---- returns, which may be left aside

abbrev pub is_return : FunctionPart → Bool
is_return (Ending (Terminator.Ret value)) = true
is_return x = false

-- a part that doesn't fit, and is no return where returns are left aside
abbrev pub misfits : Bool → Module → (ℕ → Option Kind) → Option Ty → Place → FunctionPart → Bool
misfits aside n kinds ty p x = not (aside && is_return x) && breaks_values n kinds ty p x
