-- The names of a function's labels and values.
use Rattle.std.specs.Prelude.{ℕ, List}
use Rattle.std.specs.List.{position_or_len}
use Rattle.indexmap.specs.IndexSet.{insert_key}
use Rattle.ir_base.specs.declared.name.Name.{Name}
use Rattle.ir_model.specs.Names.{same_name}

-- the position of a name, or the next one where it is new
abbrev pub place_of : List Name → Name → ℕ
place_of ns n = position_or_len (same_name n) ns

-- the names with one that may be new
abbrev pub with_name : List Name → Name → List Name
with_name ns n = insert_key same_name ns n
