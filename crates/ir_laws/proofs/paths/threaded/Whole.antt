-- Lemmas on whole, that speak of no pass.
use Rattle.std.proofs.Common.{◌≡◌, inl, inr, ⊎_elim, true, List, [], ◌∷◌, ap, sym, ◌∙◌}
use Rattle.run_laws.specs.flow_solver.Paths.{IsListed}
use Rattle.run_laws.proofs.ir_paths.Search.{either, or_left, or_right, same_point-itself, same_point-same}
use Rattle.run_laws.specs.ir_paths.Paths.{has_point, same_point}
use Rattle.run_laws.specs.ir_paths.declared.point.Point.{Point}

-- ---- lists of points

pub listed_has : (p : Point) (ps : List Point) → IsListed p ps → has_point ps p ≡ true
listed_has p [] l = absurd l
listed_has p (q ∷ ps) (inl e) = or_left (same_point p q) (has_point ps p) (ap (same_point p) (sym e) ∙ same_point-itself p)
listed_has p (q ∷ ps) (inr l) = or_right (same_point p q) (has_point ps p) (listed_has p ps l)

pub has_listed : (p : Point) (ps : List Point) → has_point ps p ≡ true → IsListed p ps
has_listed p [] h = absurd (cc)
has_listed p (q ∷ ps) h = ⊎_elim
    (λ (e : same_point p q ≡ true). inl (same_point-same p q e))
    (λ (l : has_point ps p ≡ true). inr (has_listed p ps l))
    (either (same_point p q) (has_point ps p) h)
