-- What the tables of a program say.
use Rattle.std.specs.Prelude.{ℕ, Bool, true, false, List, slice_get, Some, None, Option, option_map, ◌||◌, ◌≡◌}
use Rattle.ir_paths.specs.ir_base.declared.name.Name.{Name}
use Rattle.indexmap.specs.IndexMap.{IndexMap, get}
use Rattle.ir_paths.specs.ir_model.Names.{first_where, position_of, same_name}
use Rattle.ir_paths.specs.ir_model.declared.module.Function.{Function}
use Rattle.run_step.specs.Step.{has_markers}
use Rattle.run_step.specs.declared.function_table.FunctionTable.{FunctionTable}

-- the table has the first position of each name among the items
pub record FindsFirst {T S : Type 0} (called : T → Name) (items : List T) (table : IndexMap Name ℕ S) : Type 0 where
  pub first : (n : Name) → get same_name table n ≡ first_where (λ x. same_name (called x) n) items

-- a position where there was none and a test holds
abbrev pub or_at : Option ℕ → Bool → ℕ → Option ℕ
or_at (Some i) b at = Some i
or_at None true at = Some at
or_at None false at = None

-- the table has the position of each label's block
pub record HasPositions (f : Function) (table : List ℕ) : Type 0 where
  pub positions : (label block : ℕ) → slice_get table label ≡ Some block → block ≡ position_of f label

-- each name's mark is set as well where a test holds of it
pub record IsMarked (old new : List Bool) (test : ℕ → Bool) : Type 0 where
  pub marks : (name : ℕ) → slice_get new name ≡ option_map (λ mark. mark || test name) (slice_get old name)

-- the table has for each name whether there are markers of it
pub record HasMarks (f : Function) (table : List Bool) : Type 0 where
  pub marks : (name : ℕ) (mark : Bool) → slice_get table name ≡ Some mark → mark ≡ has_markers f name

-- the table of a function
pub record IsTableOf (f : Function) (table : FunctionTable) : Type 0 where
  pub labels : HasPositions f table.labels
  pub markers : HasMarks f table.markers

-- the tables of all functions, in their order
pub record HaveTables (functions : List Function) (tables : List FunctionTable) : Type 0 where
  pub each : (func : ℕ) (f : Function) (table : FunctionTable) → slice_get functions func ≡ Some f → slice_get tables func ≡ Some table → IsTableOf f table
