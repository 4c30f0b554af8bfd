-- The extents of named types in a table.
use Rattle.std.specs.Prelude.{ℕ, zero, suc, List, Some, None, Option, map, slice_get}
use Rattle.ir_base.specs.declared.name.Name.{Name}
use Rattle.ir_model.specs.Names.{first_where, same_name}
use Rattle.ir_model.specs.declared.module.TypeItem.{TypeItem}
use Rattle.ir_sizes.specs.Cut.{cut_whole}
use Rattle.ir_sizes.specs.declared.extent.Extent.{Extent}

abbrev pub joined : Option (Option Extent) → Option Extent
joined None = None
joined (Some e) = e

abbrev pub extent_at_position : List (Option Extent) → Option ℕ → Option Extent
extent_at_position table None = None
extent_at_position table (Some i) = joined (slice_get table i)

-- the extent that the table has of a name
abbrev pub known : List TypeItem → List (Option Extent) → Name → Option Extent
known types table n = extent_at_position table (first_where (λ t. same_name t.name n) types)

-- the table that follows from another one
abbrev pub next_table : List TypeItem → List (Option Extent) → List (Option Extent)
next_table types table = map (λ t. cut_whole (known types table) t.ty) types

-- the table that goes down through k names, and then that of its types
abbrev pub table_at : List TypeItem → ℕ → List (Option Extent)
table_at types zero = map (λ t. None) types
table_at types (suc k) = next_table types (table_at types k)

unfoldable pub full_table : List TypeItem → List (Option Extent)
full_table types = table_at types 64
