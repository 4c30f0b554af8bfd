-- The depth of types.
use Rattle.std.specs.Prelude.{ℕ, zero, suc, Bool, true, false, List, Some, None, Option, ◌&&◌}
use Rattle.ir_base.specs.declared.name.Name.{Name}
use Rattle.ir_model.specs.Layout.{type_named, type_or}
use Rattle.ir_model.specs.Ty.{Ty, Tys, array, field, int, named, none, ptr, structure, token}
use Rattle.ir_model.specs.declared.module.TypeItem.{TypeItem}

-- what a type stands for: a name for its structure, where it has one
abbrev pub meant : List TypeItem → Ty → Ty
meant types (named n) = type_or (named n) (type_named types n)
meant types t = t

abbrev pub fields_pass : (Ty → Bool) → Tys → Bool
fields_pass passes none = true
fields_pass passes (field t ts) = passes t && fields_pass passes ts

-- all parts of a type pass: the element of an array, the fields of a structure
abbrev pub parts_pass : (Ty → Bool) → Ty → Bool
parts_pass passes (array n t) = passes t
parts_pass passes (structure ts) = fields_pass passes ts
parts_pass passes t = true

-- the depth of a type is at most d; a type without parts has depth 1, and a name that isn't known has none
abbrev pub fits : List TypeItem → ℕ → Ty → Bool
fits types zero t = false
fits types (suc d) t = parts_pass (fits types d) (meant types t)

-- the depth of a type is at most 64
unfoldable pub is_shallow : List TypeItem → Ty → Bool
is_shallow types t = fits types 64 t
