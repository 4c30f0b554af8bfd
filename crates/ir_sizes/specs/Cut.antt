-- Extents whose sizes are cut off at 2^64 - 1.
use Rattle.std.specs.Prelude.{ℕ, zero, suc, min, max, Some, None, Option, option_map, ◌+◌, ◌-◌, ◌*◌, ◌^◌}
use Rattle.ir_base.specs.declared.name.Name.{Name}
use Rattle.ir_model.specs.Layout.{Extent as LayoutExtent, bytes_of_width, rounded_up}
use Rattle.ir_model.specs.Ty.{Ty, Tys, array, field, int, named, none, ptr, structure, token}
use Rattle.ir_sizes.specs.declared.extent.Extent.{Extent}

abbrev pub capped : ℕ → ℕ
capped n = min n (2 ^ 64 - 1)

-- an extent as the code has it
abbrev pub cut : LayoutExtent → Extent
cut e = record { size = capped e.size; align = e.align }

abbrev pub cut_up : ℕ → ℕ → ℕ
cut_up n a = capped (rounded_up n a)

abbrev pub cut_plain : ℕ → Extent
cut_plain n = record { size = capped n; align = n }

abbrev pub cut_array : ℕ → Extent → Extent
cut_array n e = record { size = capped (n * e.size); align = e.align }

abbrev pub cut_field : Extent → Extent → Extent
cut_field e f = record { size = capped (cut_up e.size f.align + f.size); align = max e.align f.align }

abbrev pub cut_padded : Extent → Extent
cut_padded e = record { size = cut_up e.size e.align; align = e.align }

abbrev pub cut_start : Extent
cut_start = record { size = 0; align = 1 }

abbrev pub cut_then : Option Extent → (Extent → Option Extent) → Option Extent
cut_then None f = None
cut_then (Some e) f = f e

abbrev pub cut_fields : (Ty → Option Extent) → Extent → Tys → Option Extent
cut_fields extent e none = Some e
cut_fields extent e (field t ts) = cut_then (extent t) (λ f. cut_fields extent (cut_field e f) ts)

-- the extent of a type, given those of the named types; it goes down through at most d brackets
abbrev pub cut_in : (Name → Option Extent) → ℕ → Ty → Option Extent
cut_in names zero t = None
cut_in names (suc d) (int w) = Some (cut_plain (bytes_of_width w))
cut_in names (suc d) ptr = Some (cut_plain 8)
cut_in names (suc d) token = None
cut_in names (suc d) (array n t) = option_map (cut_array n) (cut_in names d t)
cut_in names (suc d) (structure ts) = option_map cut_padded (cut_fields (cut_in names d) cut_start ts)
cut_in names (suc d) (named n) = names n

-- the extent of a type, as deep as types may be
unfoldable pub cut_whole : (Name → Option Extent) → Ty → Option Extent
cut_whole names t = cut_in names 64 t
