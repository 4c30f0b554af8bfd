-- Marks of points, in a row for each block.
use Rattle.std.specs.Prelude.{not, ℕ, Bool, false, List, [], map, length, IsTrue, nat_lt, slice_get, slice_set, unwrap_or, ◌≡◌, ◌+◌, ◌&&◌, ◌||◌, ◌∷◌, ◌++◌}
use Rattle.ir_paths.specs.ir_model.declared.module.Function.{Function}
use Rattle.ir_paths.specs.Paths.{has_point}
use Rattle.ir_paths.specs.declared.point.Point.{Point}

abbrev pub row_at : {A : Type 0} → List (List A) → ℕ → List A
row_at rows k = unwrap_or (slice_get rows k) []

abbrev pub is_marked : List (List Bool) → Point → Bool
is_marked rows p = unwrap_or (slice_get (row_at rows p.block) p.at) false

-- the marks with one set or cleared; where there is no place for it they stay
abbrev pub with_mark : List (List Bool) → Point → Bool → List (List Bool)
with_mark rows p mark = slice_set rows p.block (slice_set (row_at rows p.block) p.at mark)

-- there is a place for the mark of a point
abbrev pub is_inside : List (List Bool) → Point → Bool
is_inside rows p = nat_lt p.at (length (row_at rows p.block))

-- for each block its points, and one for the position behind the last
abbrev pub sizes_of : Function → List ℕ
sizes_of f = map (λ b. length b.instrs + 1) f.blocks ++ 1 ∷ []

pub record AreBlank (marks : List (List Bool)) : Type 0 where
  pub none : (p : Point) → is_marked marks p ≡ false

-- just these points are marked
pub record AreMarked (marks : List (List Bool)) (points : List Point) : Type 0 where
  pub each : (p : Point) → is_marked marks p ≡ has_point points p

-- there is a place for the mark of each of these points
pub record AreInside (marks : List (List Bool)) (points : List Point) : Type 0 where
  pub each : (p : Point) → IsTrue (has_point points p) → IsTrue (is_inside marks p)

-- these points are marked as well, where there is a place for their marks
pub record AreJoined (points : List Point) (old new : List (List Bool)) : Type 0 where
  pub sizes : map length new ≡ map length old
  pub each : (p : Point) → IsTrue (is_inside old p) → is_marked new p ≡ (is_marked old p || has_point points p)

-- the marks of these points are cleared
pub record AreCleared (points : List Point) (old new : List (List Bool)) : Type 0 where
  pub sizes : map length new ≡ map length old
  pub each : (p : Point) → is_marked new p ≡ (is_marked old p && not (has_point points p))
