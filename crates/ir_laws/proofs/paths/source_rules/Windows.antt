-- Lemmas on windows, that speak of no pass.
use Rattle.std.proofs.Common.{◌≡◌, inr, suc, List, [], ◌∷◌, length, ap, arith}
use Rattle.std.specs.List.{cons_option}
use Rattle.std.specs.Prelude.{Some, None, Option, slice_get}
use Rattle.run_laws.specs.flow_solver.Paths.{IsListed}
use Rattle.run_laws.specs.ir_paths.declared.point.Point.{Point}

-- ---- saves with their suspends

pub listed_more : {Y : Type 0} (y : Y) (o : Option Y) (ys : List Y) → IsListed y ys → IsListed y (cons_option o ys)
listed_more y None ys h = h
listed_more y (Some z) ys h = inr h

-- ---- one suspend

pub only_one : (ps : List Point) (s : Point) → slice_get ps 0 ≡ Some s → (((t : Point) → ps ≡ t ∷ [] → ⊥) → ⊥) → ps ≡ s ∷ []
only_one [] s e h = absurd (cc)
only_one (p ∷ []) s e h = let same : p ≡ s = cc in ap (λ (q : Point). q ∷ []) same
only_one (p ∷ q ∷ ps) s e h = absurd (h (λ t d. longer t d))
  where
    longer : (t : Point) → p ∷ q ∷ ps ≡ t ∷ [] → ⊥
    longer t d = let one : suc (suc (length ps)) ≡ 1 = ap length d in omega (arith, one)
