-- Lemmas on saved windows, that speak of no pass.
use Rattle.std.proofs.Common.{◌≡◌, false, [], ◌∷◌}
use Rattle.std.specs.Prelude.{◌||◌}
use Rattle.run_laws.specs.ir_paths.Paths.{has_point, same_point}
use Rattle.run_laws.specs.ir_paths.declared.point.Point.{Point}

pub neither : (x y p : Point) → same_point p x ≡ false → same_point p y ≡ false → has_point (x ∷ y ∷ []) p ≡ false
neither x y p h k = (λ i. h i || (k i || false))
