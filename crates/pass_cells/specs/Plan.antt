-- What the pass goes by.
use Rattle.std.specs.Prelude.{ℕ, Bool, List, [], length, replicate, slice_get, slice_set, Some, None, Option, ◌+◌, ◌∷◌}
use Rattle.pass_intrinsics.specs.Shapes.{saves_of, suspends_of}
use Rattle.pass_intrinsics.specs.declared.shape.SuspendPoint.{SuspendPoint}
use Rattle.ir_model.specs.Ty.{Ty, int}
use Rattle.ir_model.specs.declared.module.Function.{Function}
use Rattle.pass_cells.specs.Kept.{answer_type, entry, keeping_of, rows_of, value_types}
use Rattle.pass_cells.specs.Links.{bases_of, cell_name, cells_from, field_name, links_from, marks_of, slots_of}
use Rattle.pass_cells.specs.declared.keeping.Keeping.{Keeping}
use Rattle.pass_cells.specs.declared.plan.KeptValue.{KeptValue}
use Rattle.pass_cells.specs.declared.plan.Plan.{Plan}

-- ---- what is known of the values that are kept

abbrev pub type_at : List Ty → ℕ → Ty
type_at types k = answer_type (slice_get types k)

-- a field keeps the value, or its distance from a slot
abbrev pub kept_value : ℕ → ℕ → Ty → Option ℕ → Option ℕ → KeptValue
kept_value cell field t None slot = record { ty = t; cell = cell; field = field; field_ty = t; field_cell = cell; slot = None }
kept_value cell field t (Some distance) slot = record { ty = t; cell = cell; field = field; field_ty = int 64; field_cell = distance; slot = slot }

-- the values from the k-th on
abbrev pub kept_from : ℕ → ℕ → List Ty → List (Option ℕ) → List (Option ℕ) → ℕ → List ℕ → List KeptValue
kept_from first count types cells slots k [] = []
kept_from first count types cells slots k (v ∷ vs) =
    kept_value (cell_name first k) (field_name first count k) (type_at types k) (entry cells v) (entry slots v)
    ∷ kept_from first count types cells slots (k + 1) vs

-- ---- for each label the suspend whose resume or destroy edge leads there

abbrev pub with_returns : List (Option ℕ) → ℕ → List SuspendPoint → List (Option ℕ)
with_returns table j [] = table
with_returns table j (s ∷ ss) = with_returns (slice_set (slice_set table s.resume (Some j)) s.destroy (Some j)) (j + 1) ss

abbrev pub returns_of : ℕ → List SuspendPoint → List (Option ℕ)
returns_of count suspends = with_returns (replicate count None) 0 suspends

-- ---- the plan

abbrev pub plan_with : Function → List (ℕ × ℕ) → Keeping → List SuspendPoint → List (Option ℕ) → List (Option ℕ) → List (Option ℕ) → ℕ → Plan
plan_with f crossing k suspends bases slots cells links =
    record {
      first = length f.names;
      kept = kept_from (length f.names) (length k.values) (value_types f k) cells slots 0 k.values;
      places = k.places;
      bases = bases;
      cells = cells;
      links = links;
      rows = rows_of k.places (length suspends) crossing;
      saves = saves_of f suspends;
      returns = returns_of (length f.names) suspends;
    }

abbrev pub plan_by : Function → List (ℕ × ℕ) → Keeping → List SuspendPoint → List (Option ℕ) → List (Option ℕ) → List Bool → Plan
plan_by f crossing k suspends bases slots marks =
    plan_with f crossing k suspends bases slots (cells_from (length f.names) (length k.values) k.places 0 0 marks) (links_from k.places 0 0 marks)

-- crossing are the pairs of values and suspends that they cross; local tells for each name whether it is a local slot
abbrev pub plan_of : Function → List (ℕ × ℕ) → List Bool → Plan
plan_of f crossing local =
    let k = keeping_of (length f.names) crossing in
    let bases = bases_of f in
    let slots = slots_of local bases in
    plan_by f crossing k (suspends_of f) bases slots (marks_of bases slots k.values)
