-- Lemmas on moved state, that speak of no pass.
use Rattle.run_laws.specs.ir_model.declared.instr.Terminator.{Terminator}

-- ---- what is asked of a module and of a state

-- a block with a suspend ends in a switch
abbrev pub IsSwitch : Terminator → Type 0
IsSwitch (Terminator.Switch arg default cases) = Unit {0}
IsSwitch _ = ⊥
