-- The edges of a graph by the node they leave.
use Rattle.std.specs.Prelude.{◌≡◌, ℕ, List, length, Some, slice_get}
use Rattle.flow_solver.specs.Paths.{IsListed}

-- a row for each node, that lists exactly the edges that leave it
pub record AreOutgoing (nodes : ℕ) (edges : List (ℕ × ℕ)) (rows : List (List ℕ)) : Type 0 where
  pub rows_length : length rows ≡ nodes
  pub lists : (e from to : ℕ) (row : List ℕ) → slice_get edges e ≡ Some (from, to) → slice_get rows from ≡ Some row → IsListed e row
  pub leaves : (e from : ℕ) (row : List ℕ) → slice_get rows from ≡ Some row → IsListed e row → (to : ℕ) × (slice_get edges e ≡ Some (from, to))

-- all edges listed leave the node
abbrev pub LeaveNode : List (ℕ × ℕ) → ℕ → List ℕ → Type 0
LeaveNode edges node row = (e : ℕ) → IsListed e row → (to : ℕ) × (slice_get edges e ≡ Some (node, to))
