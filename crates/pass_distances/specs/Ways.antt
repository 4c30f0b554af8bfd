-- What the indices of a getelementptr add to its base.
use Rattle.std.specs.Prelude.{ℕ, List, [], pos, ◌∷◌}
use Rattle.pass_distances.specs.declared.way.Way.{Way}
use Rattle.ir_model.specs.Layout.{field_offset, field_type, size_of, unnamed}
use Rattle.ir_model.specs.Ty.{Ty, array, structure}
use Rattle.ir_model.specs.declared.module.Module.{Module}
use Rattle.ir_model.specs.declared.operand.Arg.{Arg}
use Rattle.ir_model.specs.declared.operand.Operand.{Operand}
use Rattle.ir_sizes.specs.Cut.{capped}

-- the field to which a constant leads
abbrev pub field_number : Operand → ℕ
field_number (Operand.Number (pos n)) = n
field_number _ = 0

-- what an index adds inside a type that is no name
abbrev pub way_at : Module → Ty → Arg → Way
way_at m (array n t) a = Way.Elements a (capped (size_of m t))
way_at m (structure ts) a = Way.Bytes (capped (field_offset m ts (field_number a.value)))
way_at m t a = Way.Bytes 0

-- the type to which it leads
abbrev pub inner_type : Ty → Arg → Ty
inner_type (array n t) a = t
inner_type (structure ts) a = field_type ts (field_number a.value)
inner_type t a = t

abbrev pub inner_ways : Module → Ty → List Arg → List Way
inner_ways m t [] = []
inner_ways m t (a ∷ args) = way_at m (unnamed m t) a ∷ inner_ways m (inner_type (unnamed m t) a) args

-- the first index counts whole types, the others lead into the type
abbrev pub ways_of : Module → Ty → List Arg → List Way
ways_of m t [] = []
ways_of m t (a ∷ args) = Way.Elements a (capped (size_of m t)) ∷ inner_ways m t args
