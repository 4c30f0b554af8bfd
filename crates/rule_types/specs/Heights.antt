-- The depths of named types in a table.
use Rattle.std.specs.Prelude.{ℕ, zero, suc, Bool, true, false, List, [], Some, None, Option, nat_le, slice_get, ◌+◌, ◌∷◌, if◌then◌else◌}
use Rattle.ir_base.specs.declared.name.Name.{Name}
use Rattle.ir_model.specs.Names.{first_where, same_name}
use Rattle.ir_model.specs.Ty.{Ty, Tys, array, field, int, named, none, ptr, structure, token}
use Rattle.ir_model.specs.declared.module.TypeItem.{TypeItem}
use Rattle.rule_types.specs.Depth.{fields_pass, fits, parts_pass}

-- the depth of a type is at most d, given whether a name's is
abbrev pub fits_by : (Name → ℕ → Bool) → ℕ → Ty → Bool
fits_by reaches zero t = false
fits_by reaches (suc d) (int w) = true
fits_by reaches (suc d) ptr = true
fits_by reaches (suc d) token = true
fits_by reaches (suc d) (array n t) = fits_by reaches d t
fits_by reaches (suc d) (structure ts) = fields_pass (fits_by reaches d) ts
fits_by reaches (suc d) (named n) = reaches n (suc d)

abbrev pub is_within : Option ℕ → ℕ → Bool
is_within None d = false
is_within (Some h) d = nat_le h d

abbrev pub reached : List ℕ → ℕ → Option ℕ → Bool
reached heights d None = true
reached heights d (Some i) = is_within (slice_get heights i) d

-- whether the depth of a name is at most d, by the depths of the types; a name that isn't known has none
abbrev pub reaches : List TypeItem → List ℕ → Name → ℕ → Bool
reaches types heights n d = reached heights d (first_where (λ t. same_name t.name n) types)

-- the depth of a type with these parts, where it is at most k; else 65
abbrev pub height_to : List TypeItem → ℕ → Ty → ℕ
height_to types zero t = 65
height_to types (suc k) t = if nat_le (height_to types k t) 64 then height_to types k t else (if parts_pass (fits types k) t then suc k else 65)

-- the depth of a type with these parts, or 65 where it is above 64
unfoldable pub full_height : List TypeItem → Ty → ℕ
full_height types t = height_to types 64 t

abbrev pub height_after : (Name → ℕ → Bool) → ℕ → Ty → ℕ → ℕ
height_after reaches d t h = if nat_le h 64 then h else (if parts_pass (fits_by reaches d) t then d + 1 else 65)

-- the depths where those at most d were known
abbrev pub heights_after : (Name → ℕ → Bool) → ℕ → List TypeItem → List ℕ → List ℕ
heights_after reaches d [] hs = []
heights_after reaches d (t ∷ ts) [] = []
heights_after reaches d (t ∷ ts) (h ∷ hs) = height_after reaches d t.ty h ∷ heights_after reaches d ts hs
