-- For each block whose switch isn't a suspend's the windows in which its terminator stands.
use Rattle.std.specs.Prelude.{ℕ, Bool, false, List, [], length, replicate, slice_get, slice_set, Some, None, Option, unwrap_or, not, ◌+◌, ◌∷◌, ◌++◌, ◌==◌, ◌&&◌, if◌then◌else◌}
use Rattle.pass_edges.specs.Edges.{ends_in_suspend}
use Rattle.ir_model.specs.declared.module.Block.{Block}
use Rattle.ir_model.specs.declared.module.Function.{Function}
use Rattle.ir_paths.specs.declared.point.Point.{Point}
use Rattle.ir_paths.specs.declared.point.Window.{Window}

abbrev pub row_at : List (List ℕ) → ℕ → List ℕ
row_at rows block = unwrap_or (slice_get rows block) []

-- a number more in the row of a block
abbrev pub with_number : List (List ℕ) → ℕ → ℕ → List (List ℕ)
with_number rows block n = slice_set rows block (row_at rows block ++ n ∷ [])

abbrev pub ends_at : Option Block → ℕ → Bool
ends_at None at = false
ends_at (Some b) at = not (ends_in_suspend b.instrs) && (length b.instrs == at)

-- a point is its block's terminator, which is no suspend's switch
abbrev pub is_terminator : Function → Point → Bool
is_terminator f p = ends_at (slice_get f.blocks p.block) p.at

-- n is the number of a window in which the point stands
abbrev pub noted : Function → ℕ → List (List ℕ) → Point → List (List ℕ)
noted f n rows p = if is_terminator f p then with_number rows p.block n else rows

abbrev pub noted_by : Function → ℕ → List (List ℕ) → List Point → List (List ℕ)
noted_by f n rows [] = rows
noted_by f n rows (p ∷ ps) = noted_by f n (noted f n rows p) ps

-- the windows from the n-th on
abbrev pub rows_by : Function → ℕ → List (List ℕ) → List Window → List (List ℕ)
rows_by f n rows [] = rows
rows_by f n rows (w ∷ ws) = rows_by f (n + 1) (noted_by f n rows w.inside) ws

abbrev pub rows_of : Function → List Window → List (List ℕ)
rows_of f ws = rows_by f 0 (replicate (length f.blocks) []) ws
