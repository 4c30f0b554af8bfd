-- Lemmas on edges, that speak of no pass.
use Rattle.std.proofs.Common.{◌≡◌, ◌⊎◌, inl, inr, true, false, [], ◌∷◌}
use Rattle.run_laws.proofs.ir_paths.Search.{Has, either, or_left, same_point-itself, same_point-same}
use Rattle.run_laws.specs.ir_paths.Paths.{same_point}
use Rattle.run_laws.specs.ir_paths.declared.point.Point.{Point}

-- the only one of a list
pub only_one : (y z : Point) → Has (y ∷ []) z → z ≡ y
only_one y z h = on (either (same_point z y) false h)
  where
    on : (same_point z y ≡ true) ⊎ (false ≡ true) → z ≡ y
    on (inl e) = same_point-same z y e
    on (inr e) = absurd (cc)

pub one_there : (y : Point) → Has (y ∷ []) y
one_there y = or_left (same_point y y) false (same_point-itself y)
