-- Rules on instructions alone.
use Rattle.std.specs.Prelude.{Bool, false}
use Rattle.ir_base.specs.declared.outcome.Place.{Place}
use Rattle.ir_parts.specs.Parts.{Part, OfInstr}
use Rattle.ir_model.specs.declared.instr.Instr.{Instr}

-- only instructions that are no phis and no terminators break the rule
abbrev pub on_instr : (Place → Instr → Bool) → Place → Part → Bool
on_instr breaks place (OfInstr i) = breaks place i
on_instr breaks place x = false
