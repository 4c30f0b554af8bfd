-- Lemmas on apart, that speak of no pass.
use Rattle.std.proofs.Common.{◌≡◌, ap, ◌∙◌}
use Rattle.run_laws.proofs.ir_paths.Search.{same_point-itself, same_point-same}
use Rattle.run_laws.specs.ir_paths.Paths.{same_point}
use Rattle.run_laws.specs.ir_paths.declared.point.Point.{Point}
use Rattle.ir_laws.proofs.facts.Truth.{same_truth}

-- points are the same where what they are moved to is
pub same_moved : (move step : Point → Point) (p q : Point) → (move p ≡ step q → p ≡ q) → move q ≡ step q → same_point (move p) (step q) ≡ same_point p q
same_moved move step p q h k = same_truth (same_point (move p) (step q)) (same_point p q)
    (λ e. let s = h (same_point-same (move p) (step q) e) in ap (λ (x : Point). same_point x q) s ∙ same_point-itself q)
    (λ e. let s = same_point-same p q e in ap (λ (x : Point). same_point (move x) (step q)) s ∙ ap (λ (x : Point). same_point x (step q)) k ∙ same_point-itself (step q))
