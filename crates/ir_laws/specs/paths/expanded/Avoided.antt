-- Points that paths avoid, where points have become two.
use Rattle.std.specs.Prelude.{false, List, ◌≡◌}
use Rattle.run_laws.specs.ir_paths.Paths.{has_point}
use Rattle.run_laws.specs.ir_paths.declared.point.Point.{Point}

-- where a point is avoided, its front or its back is, and where either is, the point is
pub record AreAvoided (front back : Point → Point) (avoided besides : List Point) : Type 0 where
  pub fronts : (p : Point) → has_point avoided p ≡ false → has_point besides (front p) ≡ false
  pub backs : (p : Point) → has_point avoided p ≡ false → has_point besides (back p) ≡ false
  pub home : (p : Point) → has_point besides (front p) ≡ false → has_point besides (back p) ≡ false → has_point avoided p ≡ false
