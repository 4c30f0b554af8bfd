-- The indices of getelementptrs that lead into structures.
use Rattle.std.specs.Prelude.{◌≡◌, ◌<◌, ◌^◌, ℕ, List, [], ◌∷◌, pos}
use Rattle.pass_proofs.specs.ir_model.Layout.{field_type, unnamed}
use Rattle.pass_proofs.specs.ir_model.Ty.{Ty, array, int, structure}
use Rattle.pass_proofs.specs.ir_model.declared.module.Module.{Module}
use Rattle.pass_proofs.specs.ir_model.declared.operand.Arg.{Arg}
use Rattle.pass_proofs.specs.ir_model.declared.operand.Operand.{Operand}

-- the field of a literal
abbrev pub number_in : Operand → ℕ
number_in (Operand.Number (pos n)) = n
number_in _ = 0

-- an index into a structure is a literal below 2^31
abbrev pub IsFieldIndex : Ty → Arg → Type 0
IsFieldIndex (structure ts) a = (n : ℕ) × (a.ty ≡ int 32) × (a.value ≡ Operand.Number (pos n)) × (n < 2 ^ 31)
IsFieldIndex t a = Unit {0}

-- the type to which an index leads
abbrev pub type_inside : Ty → Arg → Ty
type_inside (array n t) a = t
type_inside (structure ts) a = field_type ts (number_in a.value)
type_inside t a = t

abbrev pub AreFieldIndices : Module → Ty → List Arg → Type 0
AreFieldIndices m t [] = Unit {0}
AreFieldIndices m t (a ∷ args) = IsFieldIndex (unnamed m t) a
    × AreFieldIndices m (type_inside (unnamed m t) a) args

-- all but the first index, which counts whole types
abbrev pub AreInnerIndices : Module → Ty → List Arg → Type 0
AreInnerIndices m t [] = Unit {0}
AreInnerIndices m t (a ∷ args) = AreFieldIndices m t args
