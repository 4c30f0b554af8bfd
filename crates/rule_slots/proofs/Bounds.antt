-- Edges between nodes, one after another.
use Rattle.std.proofs.Common.{◌≡◌, ℕ, zero, suc, ◌+◌, ◌<◌, ◌≤◌, List, [], ◌∷◌, length, get_or, drop, drop-cons, add-one, Some, refl, sym, ap, subst, arith}
use Rattle.flow_solver.specs.Paths.{HasNodes}

same-pair : (x y : ℕ × ℕ) → Some x ≡ Some y → x ≡ y
same-pair x y e = cc

one-more : (nodes : ℕ) (step : ℕ × ℕ) (steps : List (ℕ × ℕ)) → step.0 < nodes → step.1 < nodes → HasNodes nodes steps → HasNodes nodes (step ∷ steps)
one-more nodes step steps first second rest zero from to e =
    let same = same-pair step (from, to) e in
    (subst (λ (n : ℕ). n < nodes) (ap (λ (x : ℕ × ℕ). x.0) same) first, subst (λ (n : ℕ). n < nodes) (ap (λ (x : ℕ × ℕ). x.1) same) second)
one-more nodes step steps first second rest (suc i) from to e = rest i from to e

pub nodes_step : (nodes : ℕ) (steps : List (ℕ × ℕ)) (i : ℕ) (step : ℕ × ℕ) → i < length steps → (get_or steps i step).0 < nodes → (get_or steps i step).1 < nodes → (HasNodes nodes (drop i steps) → HasNodes nodes steps) → HasNodes nodes (drop (i + 1) steps) → HasNodes nodes steps
nodes_step nodes steps i step lt first second rest later =
    rest (subst (λ (l : List (ℕ × ℕ)). HasNodes nodes l) (sym (drop-cons steps i step lt))
    (one-more nodes (get_or steps i step) (drop (suc i) steps) first second (subst (λ (n : ℕ). HasNodes nodes (drop n steps)) (add-one i) later)))

past : (steps : List (ℕ × ℕ)) (i : ℕ) → length steps ≤ i → drop i steps ≡ []
past [] zero le = refl
past [] (suc i) le = refl
past (x ∷ xs) zero le = absurd (omega arith)
past (x ∷ xs) (suc i) le = past xs i (omega arith)

no-step : (nodes : ℕ) → HasNodes nodes []
no-step nodes i from to e = cc

pub nodes_last : (nodes : ℕ) (steps : List (ℕ × ℕ)) (i : ℕ) → length steps ≤ i → (HasNodes nodes (drop i steps) → HasNodes nodes steps) → HasNodes nodes steps
nodes_last nodes steps i le rest = rest (subst (λ (l : List (ℕ × ℕ)). HasNodes nodes l) (sym (past steps i le)) (no-step nodes))
