-- The sizes of types, and where their parts lie.
use Rattle.std.specs.Prelude.{ℕ, zero, suc, max, Bool, true, false, List, [], Some, None, Option, option_map, ◌+◌, ◌-◌, ◌*◌, ◌/◌, ◌&&◌, ◌∷◌, if◌then◌else◌, ◌==◌}
use Rattle.ir_base.specs.declared.name.Name.{Name}
use Rattle.ir_model.specs.Names.{same_name}
use Rattle.ir_model.specs.Ty.{Ty, Tys, array, field, int, named, none, ptr, structure, token}
use Rattle.ir_model.specs.declared.module.Module.{Module}
use Rattle.ir_model.specs.declared.module.TypeItem.{TypeItem}

-- a size and an alignment, in bytes
pub record Extent : Type 0 where
  pub size : ℕ
  pub align : ℕ

-- the least multiple of a that is n or more
abbrev pub rounded_up : ℕ → ℕ → ℕ
rounded_up n a = (n + (a - 1)) / a * a

abbrev pub bytes_of_width : ℕ → ℕ
bytes_of_width w = (w + 7) / 8

abbrev pub plain_extent : ℕ → Extent
plain_extent n = record { size = n; align = n }

abbrev pub array_extent : ℕ → Extent → Extent
array_extent n e = record { size = n * e.size; align = e.align }

-- one field more, at the next offset that its alignment allows
abbrev pub with_field : Extent → Extent → Extent
with_field e f = record { size = rounded_up e.size f.align + f.size; align = max e.align f.align }

abbrev pub padded : Extent → Extent
padded e = record { size = rounded_up e.size e.align; align = e.align }

abbrev pub no_fields : Extent
no_fields = record { size = 0; align = 1 }

abbrev pub type_named : List TypeItem → Name → Option Ty
type_named [] n = None
type_named (t ∷ ts) n = if same_name t.name n then Some t.ty else type_named ts n

abbrev pub extent_then : Option Extent → (Extent → Option Extent) → Option Extent
extent_then None f = None
extent_then (Some e) f = f e

abbrev pub of_type : (Ty → Option Extent) → Option Ty → Option Extent
of_type extent None = None
of_type extent (Some t) = extent t

-- the fields so far, and those that follow
abbrev pub fields_extent : (Ty → Option Extent) → Extent → Tys → Option Extent
fields_extent extent e none = Some e
fields_extent extent e (field t ts) = extent_then (extent t) (λ f. fields_extent extent (with_field e f) ts)

-- the extent of a type, given those of the named types; it goes down through at most d brackets
abbrev pub extent_in : (Name → Option Extent) → ℕ → Ty → Option Extent
extent_in names zero t = None
extent_in names (suc d) (int w) = Some (plain_extent (bytes_of_width w))
extent_in names (suc d) ptr = Some (plain_extent 8)
extent_in names (suc d) token = None
extent_in names (suc d) (array n t) = option_map (array_extent n) (extent_in names d t)
extent_in names (suc d) (structure ts) = option_map padded (fields_extent (extent_in names d) no_fields ts)
extent_in names (suc d) (named n) = names n

-- the extent of a named type, which goes down through at most k names
abbrev pub extent_at : List TypeItem → ℕ → Name → Option Extent
extent_at types zero n = None
extent_at types (suc k) n = of_type (extent_in (extent_at types k) 64) (type_named types n)

-- the extent of a type; none where it has no size: it holds a token or a name that isn't known, contains itself, or is deeper than types may be
abbrev pub extent_of : List TypeItem → Ty → Option Extent
extent_of types t = extent_in (extent_at types 64) 64 t

abbrev pub extent_or : Option Extent → Extent
extent_or None = no_fields
extent_or (Some e) = e

abbrev pub size_of : Module → Ty → ℕ
size_of m t = (extent_or (extent_of m.types t)).size

abbrev pub align_of : Module → Ty → ℕ
align_of m t = (extent_or (extent_of m.types t)).align

abbrev pub type_or : Ty → Option Ty → Ty
type_or t None = t
type_or t (Some u) = u

-- what a name of a type stands for: a structure
abbrev pub unnamed : Module → Ty → Ty
unnamed m (named n) = type_or (named n) (type_named m.types n)
unnamed m t = t

-- the offset of the field i, where the fields before it end at e
abbrev pub field_offset_from : Module → Extent → Tys → ℕ → ℕ
field_offset_from m e none i = e.size
field_offset_from m e (field t ts) zero = rounded_up e.size (align_of m t)
field_offset_from m e (field t ts) (suc i) = field_offset_from m (with_field e (extent_or (extent_of m.types t))) ts i

abbrev pub field_offset : Module → Tys → ℕ → ℕ
field_offset m ts i = field_offset_from m no_fields ts i

abbrev pub field_type : Tys → ℕ → Ty
field_type none i = ptr
field_type (field t ts) zero = t
field_type (field t ts) (suc i) = field_type ts i

abbrev mutual
  pub same_type : Ty → Ty → Bool
  same_type (int v) (int w) = v == w
  same_type ptr ptr = true
  same_type token token = true
  same_type (array n t) (array k u) = (n == k) && same_type t u
  same_type (structure ts) (structure us) = same_types ts us
  same_type (named n) (named k) = same_name n k
  same_type _ _ = false

  pub same_types : Tys → Tys → Bool
  same_types none none = true
  same_types (field t ts) (field u us) = same_type t u && same_types ts us
  same_types _ _ = false

-- the width of an integer type
abbrev pub width_of : Ty → Option ℕ
width_of (int w) = Some w
width_of _ = None
