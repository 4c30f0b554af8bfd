-- What the tables of a function's edges say.
use Rattle.std.specs.Prelude.{ℕ, List, map, length, IsTrue, slice_get, Some, ◌≡◌, ◌<◌, ◌&&◌, ◌||◌}
use Rattle.ir_paths.specs.ir_model.Names.{position_of}
use Rattle.ir_paths.specs.ir_model.declared.module.Function.{Function}
use Rattle.ir_paths.specs.Paths.{entry_point, has_point, nexts, same_point, targets}
use Rattle.ir_paths.specs.declared.point.Point.{Point}
use Rattle.flow_points.specs.Rows.{row_at}

-- the table has the position of each label's block
pub record HasPositions (f : Function) (table : List ℕ) : Type 0 where
  pub positions : (label block : ℕ) → slice_get table label ≡ Some block → block ≡ position_of f label

-- for each block the points to which its terminator leads
abbrev pub outgoing_of : Function → List (List Point)
outgoing_of f = map (λ b. map (entry_point f) (targets b.term)) f.blocks

abbrev pub first_of : ℕ → Point
first_of block = record { block = block; at = 0 }

-- all points are the first ones of one of so many blocks
pub record AreEntries (count : ℕ) (points : List Point) : Type 0 where
  pub block : (p : Point) → IsTrue (has_point points p) → p.block < count
  pub at : (p : Point) → IsTrue (has_point points p) → p.at ≡ 0

-- a point stands as well in the rows of the blocks that have one of these first points
pub record AreFiled (points : List Point) (end : Point) (old new : List (List Point)) : Type 0 where
  pub count : length new ≡ length old
  pub each : (k : ℕ) (q : Point) → has_point (row_at new k) q ≡ (has_point (row_at old k) q || (has_point points (first_of k) && same_point q end))

-- for each block the points from which an edge leads to its first one
pub record AreIncoming (f : Function) (rows : List (List Point)) : Type 0 where
  pub each : (k : ℕ) (q : Point) → has_point (row_at rows k) q ≡ has_point (nexts f q) (first_of k)
