-- What a table of names says.
use Rattle.std.specs.Prelude.{ℕ, Bool, true, false, List, Some, None, Option, ◌≡◌}
use Rattle.ir_model.specs.ir_base.declared.name.Name.{Name}
use Rattle.indexmap.specs.IndexMap.{IndexMap, get}
use Rattle.ir_model.specs.Names.{first_where, same_name}

-- the table has the first position of each name among the items
pub record FindsFirst {T S : Type 0} (called : T → Name) (items : List T) (table : IndexMap Name ℕ S) : Type 0 where
  pub first : (n : Name) → get same_name table n ≡ first_where (λ x. same_name (called x) n) items

-- a position where there was none and a test holds
abbrev pub or_at : Option ℕ → Bool → ℕ → Option ℕ
or_at (Some i) b at = Some i
or_at None true at = Some at
or_at None false at = None
