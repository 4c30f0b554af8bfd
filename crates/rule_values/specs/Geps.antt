-- The indices of `getelementptr`.
use Rattle.std.specs.Prelude.{ℕ, zero, suc, Bool, true, false, List, [], Some, None, Option, pos, ◌∷◌}
use Rattle.ir_model.specs.Layout.{unnamed}
use Rattle.ir_model.specs.Ty.{Ty, Tys, array, field, none, structure}
use Rattle.ir_model.specs.declared.module.Module.{Module}
use Rattle.ir_model.specs.declared.operand.Arg.{Arg}
use Rattle.ir_model.specs.declared.operand.Operand.{Operand}
use Rattle.rule_types.specs.Wants.{is_int}

-- the field at a position
abbrev pub field_at : Tys → ℕ → Option Ty
field_at none i = None
field_at (field t ts) zero = Some t
field_at (field t ts) (suc i) = field_at ts i

abbrev pub field_number : Operand → Option ℕ
field_number (Operand.Number (pos n)) = Some n
field_number x = None

abbrev pub field_of : Tys → Option ℕ → Option Ty
field_of ts None = None
field_of ts (Some i) = field_at ts i

abbrev pub only_if : Bool → Option Ty → Option Ty
only_if true t = t
only_if false t = None

-- the type to which an index leads: of an array any index; of a structure a constant i32 that is one of its fields
abbrev pub part_of : Ty → Arg → Option Ty
part_of (array n t) a = Some t
part_of (structure ts) a = only_if (is_int 32 a.ty) (field_of ts (field_number a.value))
part_of t a = None

abbrev pub inner_part : Module → Option Ty → Arg → Option Ty
inner_part m None a = None
inner_part m (Some t) a = part_of (unnamed m t) a

abbrev pub is_there : Option Ty → Bool
is_there None = false
is_there (Some t) = true

-- the further indices lead into the type
abbrev pub leads_in : Module → Option Ty → List Arg → Bool
leads_in m t [] = is_there t
leads_in m t (a ∷ rest) = leads_in m (inner_part m t a) rest

-- the first index counts whole types
abbrev pub indices_fit : Module → Ty → List Arg → Bool
indices_fit m t [] = false
indices_fit m t (a ∷ rest) = leads_in m (Some t) rest
