-- Lemmas on crossed, that speak of no pass.
use Rattle.std.specs.Prelude.{Bool, true, false}
use Rattle.run_laws.specs.ir_model.declared.instr.Terminator.{Terminator}

abbrev pub is_switch : Terminator → Bool
is_switch (Terminator.Switch arg default cases) = true
is_switch t = false
