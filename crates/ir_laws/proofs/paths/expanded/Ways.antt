-- Lemmas on ways, that speak of no pass.
use Rattle.std.proofs.Common.{◌≡◌, ◌⊎◌, inl, inr, true, List, [], ◌∷◌, sym, ap, ◌∙◌}
use Rattle.std.specs.Prelude.{map}
use Rattle.run_laws.proofs.ir_paths.Search.{Has, either, or_left, or_right, same_point-itself, same_point-same}
use Rattle.run_laws.specs.ir_paths.Paths.{has_point, same_point}
use Rattle.run_laws.specs.ir_paths.declared.point.Point.{Point}

-- ---- points that are moved

pub has_map : (move : Point → Point) (ps : List Point) (q : Point) → Has ps q → Has (map move ps) (move q)
has_map move [] q h = absurd (cc)
has_map move (p ∷ ps) q h = on (has_map move ps q) (either (same_point q p) (has_point ps q) h)
  where
    on : (Has ps q → Has (map move ps) (move q)) → (same_point q p ≡ true) ⊎ Has ps q → Has (move p ∷ map move ps) (move q)
    on again (inl e) =
        or_left (same_point (move q) (move p)) (has_point (map move ps) (move q))
        (ap (λ (x : Point). same_point (move q) (move x)) (sym (same_point-same q p e)) ∙ same_point-itself (move q))
    on again (inr m) = or_right (same_point (move q) (move p)) (has_point (map move ps) (move q)) (again m)

-- a point from which another is moved
pub record IsMovedFrom (move : Point → Point) (ps : List Point) (y : Point) : Type 0 where
  pub point : Point
  pub is : y ≡ move point
  pub there : Has ps point

pub map_has : (move : Point → Point) (ps : List Point) (y : Point) → Has (map move ps) y → IsMovedFrom move ps y
map_has move [] y h = absurd (cc)
map_has move (p ∷ ps) y h = on (map_has move ps y) (either (same_point y (move p)) (has_point (map move ps) y) h)
  where
    on : (Has (map move ps) y → IsMovedFrom move ps y) → (same_point y (move p) ≡ true) ⊎ Has (map move ps) y → IsMovedFrom move (p ∷ ps) y
    on again (inl e) = record { point = p; is = same_point-same y (move p) e; there = or_left (same_point p p) (has_point ps p) (same_point-itself p) }
    on again (inr m) = let old = again m in record { point = old.point; is = old.is; there = or_right (same_point old.point p) (has_point ps old.point) old.there }
