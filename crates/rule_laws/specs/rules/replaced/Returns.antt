-- Returns that give a value.
use Rattle.std.specs.Prelude.{◌≡◌, ℕ, Bool, true, false, Some, None}
use Rattle.ir_laws.specs.ir_base.declared.outcome.Place.{Place}
use Rattle.ir_parts.specs.Parts.{Ending, Part, first_part, parts_of}
use Rattle.ir_laws.specs.ir_model.declared.instr.Terminator.{Terminator}
use Rattle.ir_laws.specs.ir_model.declared.module.Function.{Function}

abbrev pub gives_value : Place → Part → Bool
gives_value p (Ending (Terminator.Ret (Some a))) = true
gives_value p x = false

-- no return of the function gives a value
abbrev pub ReturnsNothing : ℕ → Function → Type 0
ReturnsNothing k f = first_part gives_value (parts_of k f) ≡ None
