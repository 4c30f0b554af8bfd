-- Lemmas on spelled, that speak of no pass.
use Rattle.text_canonical.specs.canonical.TypeSymbols.{type_symbols}
use Rattle.text_canonical.specs.canonical.Written.{AreWritten}
use Rattle.ir_laws.specs.ir_model.Ty.{Ty}
use Rattle.text_canonical.specs.order.Shape.{IsType}

-- a type of the grammar that can be written
abbrev pub IsSpelled : Ty → Type 0
IsSpelled t = IsType t × AreWritten (type_symbols t)
