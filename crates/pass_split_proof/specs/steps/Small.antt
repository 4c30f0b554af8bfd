-- What is stored as the index of a coroutine.
use Rattle.pass_proofs.specs.ir_model.declared.ir_type.IntWidth.{IntWidth}

-- an index has one of these widths
abbrev pub IsIndexWidth : IntWidth → Type 0
IsIndexWidth IntWidth.I8 = Unit {0}
IsIndexWidth IntWidth.I16 = Unit {0}
IsIndexWidth w = ⊥
