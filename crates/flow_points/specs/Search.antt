-- What a search does, in either direction.
use Rattle.std.specs.Prelude.{true, false, not, ℕ, Bool, List, [], map, length, IsTrue, IsFalse, ◌≡◌, ◌↔◌, ◌+◌, ◌||◌, ◌∷◌, ◌++◌, if◌then◌else◌}
use Rattle.ir_paths.specs.ir_model.declared.module.Function.{Function}
use Rattle.ir_paths.specs.Paths.{has_point, nexts}
use Rattle.ir_paths.specs.declared.point.Point.{Point}
use Rattle.flow_points.specs.Rows.{AreMarked, is_marked}
use Rattle.flow_points.specs.declared.direction.Direction.{Direction}
use Rattle.std.specs.List.{list_any}

-- an edge leads from p to q, or in the other direction from q to p
abbrev pub adjoins : Function → Direction → Point → Point → Bool
adjoins f Direction.Forward p q = has_point (nexts f p) q
adjoins f Direction.Backward p q = has_point (nexts f q) p

-- the search doesn't go on from a point whose mark among the limits isn't the one asked for
abbrev pub is_closed : List (List Bool) → Bool → Point → Bool
is_closed limits true p = not (is_marked limits p)
is_closed limits false p = is_marked limits p

-- a point is beside one of the starts
abbrev pub adjoins_any : Function → Direction → List Point → Point → Bool
adjoins_any f d starts q = list_any (λ s. adjoins f d s q) starts

-- The points that are first, and from each that isn't closed the points beside it.
pub data IsFound (f : Function) (d : Direction) (closed first : Point → Bool) : Point → Type 0 where
  First : (q : Point) → IsTrue (first q) → IsFound f d closed first q
  More : (p q : Point) → IsFound f d closed first p → IsFalse (closed p) → IsTrue (adjoins f d p q) → IsFound f d closed first q

-- what is found from starts, never going on from the points avoided
pub record AreFound (f : Function) (d : Direction) (starts avoided found : List Point) : Type 0 where
  pub each : (q : Point) → IsTrue (has_point found q) ↔ IsFound f d (has_point avoided) (adjoins_any f d starts) q

-- ---- steps

abbrev pub clear_in : List Bool → ℕ
clear_in [] = 0
clear_in (mark ∷ row) = (if mark then 0 else 1) + clear_in row

-- how many places there are without a mark
abbrev pub clear_count : List (List Bool) → ℕ
clear_count [] = 0
clear_count (row ∷ rows) = clear_in row + clear_count rows

-- the points that pass a test were found as well, and marked
pub record IsGrown (more : Point → Bool) (marks : List (List Bool)) (found : List Point) (marks2 : List (List Bool)) (found2 : List Point) : Type 0 where
  pub marked : AreMarked marks2 found2
  pub sizes : map length marks2 ≡ map length marks
  pub has : (q : Point) → has_point found2 q ≡ (has_point found q || more q)
  pub added : List Point
  pub longer : found2 ≡ found ++ added
  pub left : clear_count marks2 + length found2 ≡ clear_count marks + length found

-- all was found that is found from the points found before
pub record IsSettled (f : Function) (d : Direction) (closed : Point → Bool) (marks : List (List Bool)) (found : List Point) (marks2 : List (List Bool)) (found2 : List Point) : Type 0 where
  pub marked : AreMarked marks2 found2
  pub sizes : map length marks2 ≡ map length marks
  pub kept : (q : Point) → IsTrue (has_point found q) → IsTrue (has_point found2 q)
  pub sound : (q : Point) → IsTrue (has_point found2 q) → IsFound f d closed (has_point found) q
  pub closes : (p q : Point) → IsTrue (has_point found2 p) → IsFalse (closed p) → IsTrue (adjoins f d p q) → IsTrue (has_point found2 q)
