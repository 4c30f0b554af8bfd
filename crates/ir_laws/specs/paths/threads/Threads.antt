-- Functions of which the second has a point of its own on some of the edges of the first.
use Rattle.std.specs.Prelude.{false, List, ◌≡◌, ◌⊎◌, IsTrue}
use Rattle.run_laws.specs.ir_model.declared.module.Function.{Function}
use Rattle.run_laws.specs.ir_paths.Paths.{has_point, nexts}
use Rattle.run_laws.specs.ir_paths.declared.point.Point.{Point}

-- an edge leads from x to y, and no other one from x
pub record LeadsOnlyTo (g : Function) (x y : Point) : Type 0 where
  pub edge : IsTrue (has_point (nexts g x) y)
  pub only : (z : Point) → IsTrue (has_point (nexts g x) z) → z ≡ y

-- z is no point to which one is moved, and leads to y alone
pub record IsBetween (g : Function) (move : Point → Point) (y z : Point) : Type 0 where
  pub next : LeadsOnlyTo g z y
  pub apart : (p : Point) → z ≡ move p → ⊥

-- an edge leads from x to y, or to a point between that leads to y alone
pub record LeadsOver (g : Function) (move : Point → Point) (x y : Point) : Type 0 where
  pub first : Point
  pub edge : IsTrue (has_point (nexts g x) first)
  pub is : (first ≡ y) ⊎ IsBetween g move y first

-- y is where a point is moved to which an edge leads from p, or the point between on that edge
pub record IsOnEdge (f g : Function) (move : Point → Point) (p y : Point) : Type 0 where
  pub point : Point
  pub edge : IsTrue (has_point (nexts f p) point)
  pub is : (y ≡ move point) ⊎ IsBetween g move (move point) y

-- points are moved apart, and edges lead over at most one point between
pub record AreThreads (f g : Function) (move : Point → Point) : Type 0 where
  pub apart : (p q : Point) → move p ≡ move q → p ≡ q
  pub forth : (p q : Point) → IsTrue (has_point (nexts f p) q) → LeadsOver g move (move p) (move q)
  pub home : (p y : Point) → IsTrue (has_point (nexts g (move p)) y) → IsOnEdge f g move p y

-- the points avoided are moved, and none is one between
pub record AreAvoidedToo (move : Point → Point) (avoided besides : List Point) : Type 0 where
  pub moved : (p : Point) → has_point besides (move p) ≡ has_point avoided p
  pub others : (y : Point) → ((p : Point) → y ≡ move p → ⊥) → has_point besides y ≡ false
