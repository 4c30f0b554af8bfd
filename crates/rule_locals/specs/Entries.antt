-- Allocas outside the entry block (rule F3).
use Rattle.std.specs.Prelude.{ℕ, Bool, false, not, Some, None, Option, ◌==◌}
use Rattle.ir_base.specs.declared.outcome.Place.{Place}
use Rattle.ir_parts.specs.Parts.{first_part, parts_of}
use Rattle.ir_model.specs.declared.instr.Instr.{Instr}
use Rattle.ir_model.specs.declared.module.Function.{Function}
use Rattle.rule_locals.specs.Instrs.{on_instr}

-- the entry block is the first
abbrev pub is_past_entry : Option ℕ → Bool
is_past_entry None = false
is_past_entry (Some b) = not (b == 0)

-- F3: an alloca outside the entry block
abbrev pub allocates_late : Place → Instr → Bool
allocates_late place (Instr.Alloca r ty align) = is_past_entry place.block
allocates_late place i = false

abbrev pub first_late_alloca : ℕ → Function → Option Place
first_late_alloca k f = first_part (on_instr allocates_late) (parts_of k f)
