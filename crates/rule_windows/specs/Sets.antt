-- Sets of points that paths lead to.
use Rattle.std.specs.Prelude.{List, Bool, IsTrue, IsFalse, ◌≡◌, ◌↔◌, ◌⊎◌, [], ◌∷◌}
use Rattle.ir_parts.specs.ir_model.declared.module.Function.{Function}
use Rattle.flow_points.specs.ir_paths.Paths.{has_point}
use Rattle.flow_points.specs.ir_paths.declared.point.Point.{Point}
use Rattle.flow_points.specs.Reached.{IsReached}
use Rattle.flow_points.specs.Rows.{is_marked}
use Rattle.rule_windows.specs.Points.{begins, ends, entry}

-- the set has just these points
pub record AreIn (points : List Point) (set : List (List Bool)) : Type 0 where
  pub each : (p : Point) → is_marked set p ≡ has_point points p

-- a path leads from begin to the point without the end between
abbrev pub RunsOut : Function → Point → Type 0
RunsOut f p = IsReached f (begins f) (ends f) p

-- a path leads from the end to the point
abbrev pub IsAfterEnd : Function → Point → Type 0
IsAfterEnd f p = IsReached f (ends f) [] p

-- a path from the entry leads to the point without begin
pub record IsWithoutBegin (f : Function) (p : Point) : Type 0 where
  pub begins_later : IsFalse (has_point (begins f) entry)
  pub path : (p ≡ entry) ⊎ IsReached f (entry ∷ []) (begins f) p

-- the set has just the points at which the fact holds
pub record AreThose (Holds : Point → Type 0) (set : List (List Bool)) : Type 0 where
  pub each : (p : Point) → IsTrue (is_marked set p) ↔ Holds p
